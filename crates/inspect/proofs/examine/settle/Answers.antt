-- The queue, the holders, the free numbers and the head are asked in turn, each over the tables that the one before left. Assumes nothing.
use mathlib.Core.Path.{sym, ◌∙◌}
use mathlib.Core.Bool.{false≢true}
use mathlib.Core.List.{[]}
use Rattle.lists.specs.promises.Tables.{tables_in}
use Rattle.card_log.specs.promises.Feed.{memory}
use Rattle.disk.specs.Record.{record_in}
use Rattle.inspect.proofs.Settling.{Left, left-refused, left-held, left-listed}
use Rattle.inspect.proofs.examine.settle.Goals as goal
use Rattle.inspect.proofs.examine.settle.Goals.{Joined-holders_right, then-enter_queue, else-enter_queue, then-holders_right, else-holders_right}

pub returns-then-listed_right : goal.returns-then-listed_right
returns-then-listed_right c =
    let j = (goal.at.returns-then-listed_right c).Joined-holders_right in
    let s = j.args in
    let m = memory s.nodes.now s.members.now in
    let r = record_in s.rec.now in
    let q = j.enter_queue in
    let t = tables_in q.new.nodes in
    let asked : Left s.card.now s.queue_data.now m s.run r t j.if-holders_right.value =
    elim j.if-holders_right.branch [
      | then-holders_right f ↦ elim j.if-enter_queue.branch [
        | then-enter_queue h ↦ left-listed s.card.now s.queue_data.now m s.run r q.result t q.ensures h.if-enter_queue.true h.holders_right.result h.holders_right.ensures
            (sym h.value-is ∙ f.if-holders_right.true) f.listed_right.result f.listed_right.ensures _ f.value-is
        | else-enter_queue h ↦ absurd (false≢true (sym h.if-enter_queue.false ∙ sym h.value-is ∙ f.if-holders_right.true))
      ]
      | else-holders_right f ↦ elim j.if-enter_queue.branch [
        | then-enter_queue h ↦ left-held s.card.now s.queue_data.now m s.run r q.result t q.ensures h.if-enter_queue.true h.holders_right.result h.holders_right.ensures
            _ (f.value-is ∙ h.value-is) (sym h.value-is ∙ f.if-holders_right.false)
        | else-enter_queue h ↦ left-refused s.card.now s.queue_data.now m s.run r q.result t q.ensures _ (f.value-is ∙ h.value-is) h.if-enter_queue.false
      ]
    ] in
    asked.1 c.if-listed_right.true _ (c.head_stands.ensures [])

pub returns-else-listed_right : goal.returns-else-listed_right
returns-else-listed_right c =
    let k = (goal.at.returns-else-listed_right c).Joined-holders_right in
    let s = k.args in
    let m = memory s.nodes.now s.members.now in
    let r = record_in s.rec.now in
    let q = k.enter_queue in
    let t = tables_in q.new.nodes in
    let asked : Left s.card.now s.queue_data.now m s.run r t k.if-holders_right.value =
    elim k.if-holders_right.branch [
      | then-holders_right g ↦ elim k.if-enter_queue.branch [
        | then-enter_queue e ↦ left-listed s.card.now s.queue_data.now m s.run r q.result t q.ensures e.if-enter_queue.true e.holders_right.result e.holders_right.ensures
            (sym e.value-is ∙ g.if-holders_right.true) g.listed_right.result g.listed_right.ensures _ g.value-is
        | else-enter_queue e ↦ absurd (false≢true (sym e.if-enter_queue.false ∙ sym e.value-is ∙ g.if-holders_right.true))
      ]
      | else-holders_right g ↦ elim k.if-enter_queue.branch [
        | then-enter_queue e ↦ left-held s.card.now s.queue_data.now m s.run r q.result t q.ensures e.if-enter_queue.true e.holders_right.result e.holders_right.ensures
            _ (g.value-is ∙ e.value-is) (sym e.value-is ∙ g.if-holders_right.false)
        | else-enter_queue e ↦ left-refused s.card.now s.queue_data.now m s.run r q.result t q.ensures _ (g.value-is ∙ e.value-is) e.if-enter_queue.false
      ]
    ] in
    rw c.if-listed_right.false (asked.0 c.if-listed_right.false)
