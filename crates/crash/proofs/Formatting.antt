-- Store k of a formatting empties the k-th segment from the end, on the card as in the book (`format-carries`).
use mathlib.Core.Path.{◌≡◌, refl, sym, ap, ◌∙◌, subst}
use mathlib.Core.Logic.{inl, inr}
use mathlib.Core.List.{List, [], ◌∷◌, map}
use Prim.Native.Nat.{ℕ, zero, suc, ◌+◌, ◌-◌, ◌*◌, ◌≤◌, ◌<◌}
use native.Mathlib.Omega.{arith}
use native.Mathlib.Decide.{dec_lt, ℕ_discrete}
use lib.ListN.{length, take, get_or, set, replicate, length-set, length-map}
use lib.Seq.{get_or-set_same, take_all}
use Rattle.card_log.specs.Entry.{Entry}
use Rattle.card_log.specs.Card.{Written}
use Rattle.card_log.specs.Store.{do_stores, format_stores}
use Rattle.card_log.proofs.Segment.{Holds, Empties, Packed, Carries}
use Rattle.card_log.proofs.EntryStores.{holds-free}
use Rattle.card_log.proofs.Formatting.{holds-none, nils, format-length, formatted-carries}
use Rattle.crash.specs.Book.{Book, entries_of, placed_entries, keep_first, book_format, empty_book}
use Rattle.crash.proofs.Book.{get_or-keep, get_or-emptied, length-keep, keep_all, keep-entries}

-- Segments kept are packed.
module _ {A : Type 0} where
  empties-none : (ss : List (List A)) → Empties (keep_first zero ss)
  unfolding keep_first
  empties-none [] = tt
  empties-none (s ∷ ss) = empties-none ss

  empties-keep : (m : ℕ) (ss : List (List A)) → Empties ss → Empties (keep_first m ss)
  unfolding keep_first
  empties-keep m [] h = tt
  empties-keep zero ([] ∷ ss) h = empties-none ss
  empties-keep (suc m) ([] ∷ ss) h = empties-keep m ss h
  empties-keep m ((x ∷ xs) ∷ ss) h = absurd h

  packed_keep : (m : ℕ) (ss : List (List A)) → Packed ss → Packed (keep_first m ss)
  unfolding keep_first
  packed_keep m [] h = tt
  packed_keep zero (s ∷ ss) h = empties-none ss
  packed_keep (suc m) ([] ∷ ss) h = empties-keep m ss h
  packed_keep (suc m) ((x ∷ xs) ∷ ss) h = packed_keep m ss h

  -- one segment more emptied, the others as they were
  get_or-next : (m h : ℕ) (ss : List (List A)) → Dec (h < m) → (h ≡ m → ⊥) → get_or (keep_first m ss) h [] ≡ get_or (keep_first (suc m) ss) h []
  get_or-next m h ss (yes v) d = get_or-keep m h ss v ∙ sym (get_or-keep (suc m) h ss (omega arith))
  get_or-next m h ss (no v) d = get_or-emptied m h ss (omega arith) ∙ sym (get_or-emptied (suc m) h ss (omega arith))

format-one : (c : List ℕ) (m : ℕ) (ess : List (List (Entry Written))) → suc m ≤ length ess → Packed ess → Carries c (keep_first (suc m) ess)
    → Carries (set c (4096 * m + 3584) 0) (keep_first m ess)
format-one c m ess l pk k =
    record {
      size = length-set c _ _ ∙ k.size ∙ ap (λ (n : ℕ). 4096 * n) (length-keep (suc m) ess ∙ sym (length-keep m ess));
      some-segment = rw (length-keep m ess ∙ sym (length-keep (suc m) ess)) k.some-segment;
      packed = packed_keep m ess pk;
      holds = λ h i. held h (rw (length-keep m ess) at i) (ℕ_discrete h m);
    }
  where
    c' : List ℕ
    c' = set c (4096 * m + 3584) 0

    held : (h : ℕ) → h < length ess → Dec (h ≡ m) → Holds c' h (get_or (keep_first m ess) h [])
    held h i (yes q) =
        rw (get_or-emptied m h ess (omega arith))
        (holds-none c' h (rw q (get_or-set_same c (4096 * m + 3584) 0 0 (omega (arith, k.size, length-keep (suc m) ess)))))
    held h i (no d) = rw (get_or-next m h ess (dec_lt h m) d) (side (dec_lt h m))
      where
        k' : Holds c h (get_or (keep_first (suc m) ess) h [])
        k' = k.holds h (rw (length-keep (suc m) ess) i)

        side : Dec (h < m) → Holds c' h (get_or (keep_first (suc m) ess) h [])
        side (yes v) = holds-free c h _ (4096 * m + 3584) 0 (inr (inr (omega (arith, k'.short)))) k'
        side (no v) = holds-free c h _ (4096 * m + 3584) 0 (inl (omega arith)) k'

format-some : (k n : ℕ) (c : List ℕ) (ess : List (List (Entry Written))) → k ≤ n → n ≤ length ess → Packed ess → Carries c (keep_first n ess)
    → Carries (do_stores (take k (format_stores n)) c) (keep_first (n - k) ess)
unfolding do_stores format_stores
format-some zero n c ess l m p h = subst (λ (i : ℕ). Carries c (keep_first i ess)) (let q : n ≡ n - 0 = omega arith in q) h
format-some (suc k) zero c ess l m p h = absurd (omega arith)
format-some (suc k) (suc n) c ess l m p h =
    subst (λ (i : ℕ). Carries (do_stores (take k (format_stores n)) (set c (4096 * n + 3584) 0)) (keep_first i ess))
    (let q : n - k ≡ suc n - suc k = omega arith in q)
    (format-some k n (set c (4096 * n + 3584) 0) ess (omega arith) (omega arith) p (format-one c n ess m p h))

pub format-carries : (k : ℕ) (c : List ℕ) (b : Book) → k ≤ length b.segs → Carries c (placed_entries b)
    → Carries (do_stores (take k (format_stores (length b.segs))) c) (placed_entries (book_format k b))
unfolding placed_entries book_format
format-carries k c b l h =
    let n : length (map entries_of b.segs) ≡ length b.segs = length-map b.segs entries_of in
    rw (keep-entries (length b.segs - k) b.segs)
    (format-some k (length b.segs) c (map entries_of b.segs) l (omega arith) h.packed
    (rw (keep_all (length b.segs) (map entries_of b.segs) (omega arith)) h))

-- the book of a card just formatted
map-nils : (n : ℕ) → map entries_of (replicate n []) ≡ nils n
unfolding entries_of
map-nils zero = refl
map-nils (suc n) = ap {B = List (List (Entry Written))} (λ r. [] ∷ r) (map-nils n)

pub empty-carries : (n : ℕ) (c : List ℕ) → 0 < n → length c ≡ 4096 * n → Carries (do_stores (take n (format_stores n)) c) (placed_entries (empty_book n))
unfolding placed_entries empty_book
empty-carries n c p l = rw (take_all n (format_stores n) (omega (arith, format-length n)), map-nils n) (formatted-carries n c p l)
