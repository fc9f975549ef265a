-- The stores of a `LogEntry` at its place, by number: those of its data if it writes, those of its bytes, and the count's.
use mathlib.Core.Path.{◌≡◌, refl, sym, ap, ◌∙◌, subst}
use mathlib.Core.Bool.{Bool, true, false}
use mathlib.Core.Option.{Option, none, some, map}
use mathlib.Core.List.{List}
use Prim.Native.Nat.{ℕ, suc, ◌+◌, ◌*◌, ◌-◌, ◌<◌, ◌≤◌}
use native.Mathlib.Omega.{arith}
use lib.ListN.{length, get_or, set}
use borrow.Rule.Slice.PartMut.{mid_of, put_mid, mid_len, set_mid_at}
use Rattle.card_log.specs.declared.entry.LogEntry.{LogEntry}
use Rattle.card_log.specs.declared.place.Place.{Place}
use Rattle.card_log.specs.Raced.{Raced, with_body}
use Rattle.card_log.specs.Entry.{Entry, map_entry, carried, encode, raw, entry_length, as_entry}
use Rattle.card_log.specs.Card.{Content, Written, used_by}
use Rattle.card_log.specs.Store.{Store, fits, data_of, entry_stores}
use Rattle.card_log.proofs.Naturality.{carried-map, raw-map}
use Rattle.card_log.proofs.Segment.{Sized, data-length}
use Rattle.card_log.proofs.EntryStores.{Which, in_data, in_code, closing, which, store_of, entry-stores-length, data_at, code_at, code}
use Rattle.card_log.proofs.Places.{raw-length, fits_both}
use Rattle.card_log.proofs.Within.{length-of-entry, used-of-entry}

-- the entry as it goes to the card with the content d
abbrev pub going : Content → Bool → LogEntry → Entry Written
going d m e = map_entry (with_body d) (as_entry m e)

-- how many data bytes it has, and how many bytes
abbrev pub data_bytes : LogEntry → ℕ
data_bytes e = 256 * used_by (carried (as_entry false e))

abbrev pub code_bytes : LogEntry → ℕ
code_bytes e = entry_length (as_entry false e)

-- a store is at a and of b
abbrev pub Is : Store → ℕ → ℕ → Type 0
Is x a b = (x.0 ≡ a) × (x.1 ≡ b)

pub set-store : (c : List ℕ) (x : Store) {a b : ℕ} → x.0 ≡ a → x.1 ≡ b → set c a b ≡ set c x.0 x.1
set-store c x p q = rw (p, q)

pub going-short : (d : Content) (m : Bool) (e : LogEntry) (p : Place) → fits p (going d m e) ≡ true → p.bytes + code_bytes e ≤ 511
going-short d m e p h = omega (arith, (fits_both p (going d m e) h).0, length-of-entry d m e)

module _ (d : Content) (z : length d ≡ 256) (m : Bool) (e : LogEntry) where
  -- only a write carries something, and that is d
  going-sized : Sized (carried (going d m e))
  going-sized = subst Sized (sym (carried-map (with_body d) (as_entry m e))) (go (carried (as_entry m e)))
    where
      go : (o : Option (Raced ℕ)) → Sized (map (with_body d) o)
      go none = tt
      go (some s) = z

  going-data : (j : ℕ) → j < length (data_of (carried (going d m e))) → get_or (data_of (carried (going d m e))) j 0 ≡ get_or d j 0
  unfolding data_of
  going-data j = rw (carried-map (with_body d) (as_entry m e)) (go (carried (as_entry m e)))
    where
      go : (o : Option (Raced ℕ)) → j < length (data_of (map (with_body d) o)) → get_or (data_of (map (with_body d) o)) j 0 ≡ get_or d j 0
      go none l = absurd (omega arith)
      go (some s) l = refl

  data-many : length (data_of (carried (going d m e))) ≡ data_bytes e
  data-many = data-length (carried (going d m e)) going-sized ∙ ap (λ (n : ℕ). 256 * n) (used-of-entry d m e)

  code-many : (p : Place) → length (code p (going d m e)) ≡ code_bytes e
  code-many p = raw-length p.slots (going d m e) ∙ length-of-entry d m e

  pub stores-many : (p : Place) → length (entry_stores p (going d m e)) ≡ data_bytes e + code_bytes e + 1
  stores-many p = entry-stores-length p (going d m e) ∙ omega (arith, data-many, code-many p)

  module _ (p : Place) where
    pub store-data : (j : ℕ) → j < data_bytes e → Is (store_of p (going d m e) j) (data_at p + j) (get_or d j 0)
    store-data j h = go (which p (going d m e) j (omega (arith, stores-many p)))
      where
        go : Which p (going d m e) j (store_of p (going d m e) j).0 (store_of p (going d m e) j).1 → Is (store_of p (going d m e) j) (data_at p + j) (get_or d j 0)
        go (in_data l a b) = (a, b ∙ going-data j l)
        go (in_code i q l a b) = absurd (omega (arith, data-many))
        go (closing q a b) = absurd (omega (arith, data-many))

    pub store_code : (j : ℕ) → data_bytes e ≤ j → j - data_bytes e < code_bytes e
        → Is (store_of p (going d m e) j) (code_at p + (j - data_bytes e)) (get_or (encode (raw p.slots (as_entry m e))) (j - data_bytes e) 0)
    store_code j g h = go (which p (going d m e) j (omega (arith, stores-many p)))
      where
        go : Which p (going d m e) j (store_of p (going d m e) j).0 (store_of p (going d m e) j).1
            → Is (store_of p (going d m e) j) (code_at p + (j - data_bytes e)) (get_or (encode (raw p.slots (as_entry m e))) (j - data_bytes e) 0)
        go (in_data l a b) = absurd (omega (arith, data-many))
        go (in_code i q l a b) =
            let o : i ≡ j - data_bytes e = omega (arith, data-many) in (
              a ∙ ap (λ (n : ℕ). code_at p + n) o,
              b ∙ ap (λ (n : ℕ). get_or (code p (going d m e)) n 0) o ∙ ap (λ (x : Entry (Raced ℕ)). get_or (encode x) (j - data_bytes e) 0) (raw-map (with_body d) (λ s. refl) p.slots (as_entry m e)),
            )
        go (closing q a b) = absurd (omega (arith, data-many, code-many p))

    pub store-count : (j : ℕ) → j ≡ data_bytes e + code_bytes e → Is (store_of p (going d m e) j) (4096 * p.segment + 3584) (suc p.entries)
    store-count j h = go (which p (going d m e) j (omega (arith, stores-many p)))
      where
        go : Which p (going d m e) j (store_of p (going d m e) j).0 (store_of p (going d m e) j).1 → Is (store_of p (going d m e) j) (4096 * p.segment + 3584) (suc p.entries)
        go (in_data l a b) = absurd (omega (arith, data-many))
        go (in_code i q l a b) = absurd (omega (arith, data-many, code-many p))
        go (closing q a b) = (a, b)

-- A store in a part that is lent on is a store in the whole.
pub store-in-part : (a k i v : ℕ) (xs ys : List ℕ) → a + k ≤ length xs → i < k → ys ≡ set (mid_of a (a + k - a) xs) i v → put_mid a (a + k - a) xs ys ≡ set xs (a + i) v
store-in-part a k i v xs ys h l q = rw q (set_mid_at a (a + k - a) i xs v (rw (mid_len a (a + k) xs h) (omega arith)))
