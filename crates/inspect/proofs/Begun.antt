-- The queue's head: whether its stores stand, by its place and its entry.
use mathlib.Core.Path.{◌≡◌, sym, ap, ◌∙◌}
use mathlib.Core.Logic.{◌≢◌}
use mathlib.Core.Bool.{false}
use mathlib.Core.Option.{Option}
use mathlib.Core.List.{List, ◌∷◌}
use Prim.Native.Nat.{ℕ, ◌+◌, ◌-◌, ◌%◌, ◌<◌}
use native.Mathlib.Omega.{arith}
use lib.Dec.{eqb}
use lib.ListN.{get_or}
use Rattle.lists.specs.Basic.{from}
use Rattle.lists.proofs.Basic.{from_step}
use Rattle.card_log.specs.declared.place.Place.{Place}
use Rattle.card_log.specs.Entry.{Entry, as_entry}
use Rattle.card_log.specs.Card.{Content, Written, slot, segments_in}
use Rattle.card_log.specs.Store.{home, tail, head_at}
use Rattle.card_log.proofs.Within.{home-of-entry}
use Rattle.card_log.proofs.LogStores.{going}
use Rattle.card_log.specs.Cell.{Cell, member_in, entry_in}
use Rattle.disk.specs.Record.{Record, no_cell}
use Rattle.disk.specs.Disk.{disk, queued_at, queued}
use Rattle.disk.specs.Sound.{head_standing}

module _ (c q j : List ℕ) (r : Record) where
  pub head-none : (k : ℕ) → r.ring.len ≡ 0 → head_standing c k (queued (disk c q j r)) ≡ eqb k 0
  unfolding queued from head_standing
  head-none k h = rw h

  abbrev head_in : Cell
  head_in = get_or r.ring.queue r.ring.head no_cell

  abbrev head_with : Content → Entry Written
  head_with d = going d (member_in head_in) (entry_in head_in)

  first : (d : Content) → r.ring.head < 32 → r.ring.len ≢ 0 → d ≡ slot q r.ring.head → (es : List (Entry Written)) × (queued (disk c q j r) ≡ head_with d ∷ es)
  unfolding queued queued_at
  first d h n y =
      let f = queued_at (disk c q j r) in
      let z : r.ring.len - 0 ≡ r.ring.len = omega arith in
      let e : (r.ring.head + 0) % 32 ≡ r.ring.head = omega arith in
      (from f (0 + 1) (r.ring.len - (0 + 1)), ap (from f 0) (sym z) ∙ from_step f 0 r.ring.len (omega arith) ∙ rw (e, y))

  pub head-some : (k : ℕ) (d : Content) (p : Place) (o : Option Place) → r.ring.head < 32 → r.ring.len ≢ 0 → d ≡ slot q r.ring.head → p ≡ tail c
      → home (segments_in c) p (as_entry false (entry_in head_in)) ≡ o → head_standing c k (queued (disk c q j r)) ≡ head_at c k o (head_with d)
  unfolding head_standing
  head-some k d p o h n y t e =
      let (es, x) = first d h n y in
      let z : home (segments_in c) (tail c) (head_with d) ≡ o = rw (← t) (home-of-entry d (member_in head_in) (entry_in head_in) (segments_in c) p ∙ e) in
      ap (head_standing c k) x ∙ ap (λ (w : Option Place). head_at c k w (head_with d)) z
