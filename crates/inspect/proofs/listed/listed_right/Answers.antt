-- Number by number, of the blocks and then of the lists. Assumes nothing.
use Rattle.std.proofs.Common.{ℕ, ◌∙◌, ap, eqb, get_or, rules, tests, arith}
use Rattle.std.proofs.lemmas.Iterator.{YieldsList-from_range}
use Rattle.std.proofs.lemmas.Iterator.Search.{all_from_yields_List}
use Rattle.disk.specs.Record.{record_in}
use Rattle.disk.specs.Sound.{listed_sound, due_times}
use Rattle.inspect.proofs.Judging.{all-range, kinds-right, kinds-wrong}
use Rattle.inspect.proofs.listed.listed_right.Goals as goal

pub returns-then-all : goal.returns-then-all
unfolding listed_sound
returns-then-all c = λ rs s.
    let r = record_in c.args.rec.now in
    let test = λ (n : ℕ). eqb (get_or c.count_listed.new.seen n 0) (due_times r rs n) in
    kinds-right (listed_sound r rs) c.all.result
    (all_from_yields_List test _ _ _ c.all.ensures.ran (YieldsList-from_range 1 65 64 (cc) (omega arith)) (λ n b q h. search (rules, tests))
    ∙ all-range (listed_sound r rs) (λ n. n) test 1 64 (λ n l. ap (λ (m : ℕ). eqb m (due_times r rs n)) (c.count_listed.ensures n (omega arith))))
    c.all-then-all.result c.if-all.true
    (all_from_yields_List test _ _ _ c.all-then-all.ensures.ran (YieldsList-from_range 65 81 16 (cc) (omega arith)) (λ n b q h. search (rules, tests))
    ∙ all-range (listed_sound r rs) (λ n. n) test 65 16 (λ n l. ap (λ (m : ℕ). eqb m (due_times r rs n)) (c.count_listed.ensures n (omega arith))))

pub returns-else-all : goal.returns-else-all
unfolding listed_sound
returns-else-all c = λ rs s.
    let r = record_in c.args.rec.now in
    let test = λ (n : ℕ). eqb (get_or c.count_listed.new.seen n 0) (due_times r rs n) in
    kinds-wrong (listed_sound r rs) c.all.result
    (all_from_yields_List test _ _ _ c.all.ensures.ran (YieldsList-from_range 1 65 64 (cc) (omega arith)) (λ n b q h. search (rules, tests))
    ∙ all-range (listed_sound r rs) (λ n. n) test 1 64 (λ n l. ap (λ (m : ℕ). eqb m (due_times r rs n)) (c.count_listed.ensures n (omega arith))))
    c.if-all.false
