-- Questions 5 and 7 are tested one by one, the latter over the lists that the owners show; the rest is `delete`'s. Assumes nothing.
use mathlib.Core.Path.{refl, sym, ◌∙◌}
use Rattle.lists.proofs.Lookup.{taken-said}
use Rattle.lists.specs.Change.{del_list, map_change}
use Rattle.lists.specs.State.{taken, applies, state}
use Rattle.card_log.specs.Entry.{is_list, as_change, map_entry, raw, legal, legal_change}
use Rattle.disk.specs.Record.{record_in}
use Rattle.answers.specs.declared.Refusal.TheVariants.{OutOfRange, ListNotTaken}
use Rattle.answers.specs.Answers.{number}
use Rattle.disk.proofs.Changes.{apply-applies}
use Rattle.inspect.proofs.Asking.{exit_asked}
use Rattle.calls.proofs.Refusing.{inside}
use Rattle.calls.proofs.Adding.{first-no, second-no, both_yes}
use Rattle.calls.proofs.delete_list.delete_taken.Goals as goal

pub returns-in_err-ask : goal.returns-in_err-ask
unfolding number
returns-in_err-ask c = λ rs h.
    let a = c.args in
    rw (exit_asked _ _ _ c.from_residual.ensures.1 c.in_err-ask.ensures.0)
    (first-no 5 7 (is_list a.l) (taken a.l rs) a.s (record_in a.rec.now) OutOfRange refl (sym c.is_list.ensures ∙ c.in_err-ask.ensures.1))

pub returns-in_err-ask-2 : goal.returns-in_err-ask-2
unfolding number
returns-in_err-ask-2 c = λ rs h.
    let a = c.args in
    let w = sym c.is_list.ensures ∙ c.in_ok-ask.ensures in
    rw (exit_asked _ _ _ c.from_residual-in_err-ask-2.ensures.1 c.in_err-ask-2.ensures.0)
    (second-no 5 7 (is_list a.l) (taken a.l rs) a.s (record_in a.rec.now) ListNotTaken refl w (sym (taken-said c.is_taken.ensures rs h (inside 16 a.l w)) ∙ c.in_err-ask-2.ensures.1))

pub delete-requires : goal.delete-requires
unfolding as_change map_change map_entry raw legal legal_change
delete-requires c = (c.requires.0, c.requires.1, c.requires.2, sym c.is_list.ensures ∙ c.in_ok-ask.ensures)

pub returns : goal.returns
unfolding applies
returns c = λ rs h.
    let a = c.args in
    let w = sym c.is_list.ensures ∙ c.in_ok-ask.ensures in
    let u = sym (taken-said c.is_taken.ensures rs h (inside 16 a.l w)) ∙ c.in_ok-ask-2.ensures in
    both_yes 5 7 (is_list a.l) (taken a.l rs) a.s (record_in a.rec.now) _ c.delete.result _ w u
    (c.delete.ensures (del_list a.l) (state rs h.order) _ refl h.shown (apply-applies (del_list a.l) (state rs h.order) u))
