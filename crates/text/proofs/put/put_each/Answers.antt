-- Each turn puts the text of one item more behind what is there. Assumes nothing.
use Rattle.std.proofs.Common.{rules, sym, ◌≡◌, ◌∙◌, List, [], ◌∷◌, ◌++◌, ℕ, ap, add-one, append_assoc}
use lib.Seq.{take-suc}
use Rattle.text.specs.Each.{each_of}
use Rattle.text.proofs.Writing.{puts_none, puts-more}
use Rattle.text.proofs.put.put_each.Goals as goal

each_of-append : (text : ℕ → List ℕ) (xs : List ℕ) (y : ℕ) → each_of text (xs ++ y ∷ []) ≡ each_of text xs ++ text y
unfolding each_of
each_of-append text [] y = search rules
each_of-append text (x ∷ xs) y = ap (λ l. text x ++ l) (each_of-append text xs y) ∙ sym (append_assoc (text x) (each_of text xs) (text y))

pub loop-x-init : goal.loop-x-init
unfolding each_of
loop-x-init g c = (search rules, λ text h. puts_none c.args.out.now c.args.at)

pub loop-x-preserved : goal.loop-x-preserved
loop-x-preserved g c =
    (c.loop-x.invariant.0, λ text h. rw (add-one, take-suc c.args.items.now c.loop-x.x-index 0 c.loop-x-test.true, each_of-append) (puts-more (c.loop-x.invariant.1 text h) (h _ _ _ _ _ c.put-position.ensures)))
