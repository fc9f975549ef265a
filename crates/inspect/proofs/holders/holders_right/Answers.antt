-- Number by number, of the blocks and then of the lists. Assumes nothing.
use Rattle.std.proofs.Common.{◌∙◌, refl, rules, tests, arith}
use Rattle.std.proofs.lemmas.Iterator.{YieldsList-from_range}
use Rattle.std.proofs.lemmas.Iterator.Search.{all_from_yields_List}
use Rattle.disk.specs.Record.{record_in}
use Rattle.disk.specs.Sound.{holder_sound}
use Rattle.inspect.proofs.Judging.{all-range, kinds-right, kinds-wrong}
use Rattle.inspect.proofs.holders.holders_right.Goals as goal

pub returns-then-all : goal.returns-then-all
returns-then-all c = λ rs s.
    let right = holder_sound (record_in c.args.rec.now) rs in
    kinds-right right c.all.result
    (all_from_yields_List right _ _ _ c.all.ensures.ran (YieldsList-from_range 1 65 64 (cc) (omega arith)) (λ n b q h. search (rules, tests)) ∙ all-range right (λ n. n) right 1 64 (λ n l. refl))
    c.all-then-all.result c.if-all.true
    (all_from_yields_List right _ _ _ c.all-then-all.ensures.ran (YieldsList-from_range 65 81 16 (cc) (omega arith)) (λ n b q h. search (rules, tests)) ∙ all-range right (λ n. n) right 65 16 (λ n l. refl))

pub returns-else-all : goal.returns-else-all
returns-else-all c = λ rs s.
    let right = holder_sound (record_in c.args.rec.now) rs in
    kinds-wrong right c.all.result
    (all_from_yields_List right _ _ _ c.all.ensures.ran (YieldsList-from_range 1 65 64 (cc) (omega arith)) (λ n b q h. search (rules, tests)) ∙ all-range right (λ n. n) right 1 64 (λ n l. refl))
    c.if-all.false
