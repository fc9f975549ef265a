-- A disk with a fresh record: nothing queued and nothing journalled, so every view shows the log's state.
use mathlib.Core.Path.{◌≡◌, refl, ap, ◌∙◌}
use mathlib.Core.Bool.{Bool, true, false, cond}
use mathlib.Core.Option.{Option, none, some}
use mathlib.Core.List.{List, []}
use Prim.Native.Nat.{ℕ, zero, suc, ◌-◌}
use lib.Dec.{eqb}
use lib.ListN.{get_or, replicate}
use Rattle.lists.specs.Basic.{bind, from}
use Rattle.lists.specs.State.{overlay}
use Rattle.card_log.specs.Reader.{Reader, replay}
use Rattle.card_log.specs.Card.{Written, mounted}
use Rattle.disk.specs.Record.{Record, no_unit, fresh_unit, blank_record, fresh_record, with_listed, unit_count}
use Rattle.disk.specs.Disk.{Disk, queued_at, queued, unit_of, journal_at, journal_of, reader_of, committed_reader, persistent, committed, view}

fresh-length : (n i : ℕ) → (get_or (replicate n fresh_unit) i no_unit).len ≡ 0
unfolding fresh_unit
fresh-length zero i = refl
fresh-length (suc n) zero = refl
fresh-length (suc n) (suc i) = fresh-length n i

replay-none : (o : Option (Reader Written)) → bind o (λ r. replay r []) ≡ o
unfolding replay
replay-none none = refl
replay-none (some r) = refl

module _ (d : Disk) (fs : List ℕ) (h : d.rec ≡ fresh_record fs) where
  pub fresh-queue : queued d ≡ []
  unfolding queued fresh_record with_listed blank_record from
  fresh-queue = ap (from (queued_at d) 0) (ap (λ (r : Record). r.ring.len) h)

  pub fresh-journal : (u : ℕ) → journal_of d u ≡ []
  unfolding journal_of unit_of fresh_record with_listed blank_record from
  fresh-journal u = ap (from (journal_at d u) 0) (ap (λ (r : Record). (get_or r.held.units (u - 1) no_unit).len) h ∙ fresh-length unit_count (u - 1))

  pub fresh-reader : committed_reader d ≡ reader_of (mounted d.card)
  unfolding committed_reader
  fresh-reader = rw fresh-queue (replay-none (reader_of (mounted d.card)))

  pub fresh-view : (v : ℕ) → view d v ≡ persistent d
  unfolding view committed persistent overlay
  fresh-view v = rw (fresh-journal v) (rw fresh-reader (same (eqb v 5) (eqb v 0)))
    where
      same : (a b : Bool) → cond a (persistent d) (cond b (persistent d) (persistent d)) ≡ persistent d
      same true b = refl
      same false true = refl
      same false false = refl
