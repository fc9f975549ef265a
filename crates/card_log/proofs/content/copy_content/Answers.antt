-- The number names 256 bytes of one of the three buffers. Assumes nothing.
use mathlib.Core.Path.{sym, ap, ◌∙◌}
use native.Mathlib.Omega.{arith}
use lib.ListN.{length}
use Rattle.card_log.proofs.Copying.{at-card, at-queue, at-journal}
use Rattle.card_log.proofs.content.copy_content.Goals as goal

pub copy_slot-requires : goal.copy_slot-requires
copy_slot-requires c =
    let a = c.args in
    (omega arith, ap length (sym (at-card a.card.now a.queue_data.now a.journal_data.now a.number c.if-at-lt-QUEUE.true)) ∙ c.requires.1, c.requires.2)

pub copy_slot-requires-then-at-lt-JOURNALS : goal.copy_slot-requires-then-at-lt-JOURNALS
copy_slot-requires-then-at-lt-JOURNALS c =
    let a = c.args in
    (omega arith, ap length (sym (at-queue a.card.now a.queue_data.now a.journal_data.now a.number c.if-at-lt-QUEUE.false c.if-at-lt-JOURNALS.true)) ∙ c.requires.1, c.requires.2)

pub copy_slot-requires-else-at-lt-JOURNALS : goal.copy_slot-requires-else-at-lt-JOURNALS
copy_slot-requires-else-at-lt-JOURNALS c =
    let a = c.args in
    (omega arith, ap length (sym (at-journal a.card.now a.queue_data.now a.journal_data.now a.number c.if-at-lt-JOURNALS.false)) ∙ c.requires.1, c.requires.2)

pub returns-then-at-lt-QUEUE : goal.returns-then-at-lt-QUEUE
returns-then-at-lt-QUEUE c =
    let a = c.args in
    c.copy_slot.ensures ∙ sym (at-card a.card.now a.queue_data.now a.journal_data.now a.number c.if-at-lt-QUEUE.true)

pub returns-then-at-lt-JOURNALS : goal.returns-then-at-lt-JOURNALS
returns-then-at-lt-JOURNALS c =
    let a = c.args in
    c.copy_slot-then-at-lt-JOURNALS.ensures ∙ sym (at-queue a.card.now a.queue_data.now a.journal_data.now a.number c.if-at-lt-QUEUE.false c.if-at-lt-JOURNALS.true)

pub returns-else-at-lt-JOURNALS : goal.returns-else-at-lt-JOURNALS
returns-else-at-lt-JOURNALS c =
    let a = c.args in
    c.copy_slot-else-at-lt-JOURNALS.ensures ∙ sym (at-journal a.card.now a.queue_data.now a.journal_data.now a.number c.if-at-lt-JOURNALS.false)
