-- What reading a block performs, from what the tables of a view answer.
use mathlib.Core.Path.{◌≡◌, refl, sym, ap, ◌∙◌}
use mathlib.Core.Logic.{◌≢◌}
use mathlib.Core.Bool.{Bool, true, false, ◌&&◌, not}
use mathlib.Core.Option.{some, map}
use mathlib.Core.List.{List}
use Prim.Native.Nat.{ℕ, zero, suc}
use lib.Dec.{leb, eqb}
use lib.ListN.{length}
use Rattle.lists.specs.Basic.{is_some}
use Rattle.lists.specs.State.{placed}
use Rattle.lists.specs.Lookup.{content_of, written}
use Rattle.lists.specs.promises.Tables.{Tables, IsBlock, OfShown, located_at}
use borrow.Author.Tests.{not-true, not-false}
use Rattle.lists.proofs.Basic.{and-true, leb-true, eqb-true, eqb-neq}
use Rattle.card_log.specs.Entry.{is_block}
use Rattle.std.specs.Prelude.{Result, Ok, Err}
use Rattle.answers.specs.declared.Refusal.{Refusal}
use Rattle.answers.specs.declared.Refusal.TheVariants.{OutOfRange, BlockNotPlaced, Unwritten}
use Rattle.disk.specs.Disk.{Disk, view}
use Rattle.disk.specs.Call.{read_block, in_view, lent_to, destination}
use Rattle.disk.specs.Questions.{look_questions, questions, refusal}
use Rattle.disk.specs.Perform.{read_to, found, accepted}
use Rattle.answers.specs.Answers.{number, read_answer}
use Rattle.disk.proofs.Contents.{view-sized}
use Rattle.calls.specs.Performs.{Performs}
use Rattle.inspect.specs.promises.Located.{contents}
use Rattle.inspect.specs.promises.Inspect.{Sees}
use Rattle.inspect.proofs.Locating.{placed-told, content-told}
use Rattle.inspect.proofs.Asking.{ask-yes, ask-no, last-yes}
use Rattle.calls.proofs.Refusing.{seen, usual-performs-refused, performs-accepted}

located-some : (n : ℕ) → n ≢ 0 → located_at n ≡ some n
located-some zero z = absurd (z refl)
located-some (suc n) z = refl

pub read-range : (b n : ℕ) → is_block b && eqb n 256 ≡ true → IsBlock b × (n ≡ 256)
read-range b n h =
    let (a, e) = and-true (is_block b) (eqb n 256) h in
    let (x, y) = and-true (leb 1 b) (leb b 64) a in
    ((leb-true 1 b x, leb-true b 64 y), eqb-true n 256 e)

module _ (d : Disk) (v b : ℕ) (x : List ℕ) where
  abbrev Reads : Result ℕ Refusal → List ℕ → Type 0
  Reads r y = Performs (in_view v (read_block b x)) d d (read_answer r) y

  read-refused : (r : Refusal) → refusal (in_view v (read_block b x)) d ≡ number r → Reads (Err r) x
  unfolding destination lent_to read_answer
  read-refused r h = usual-performs-refused (in_view v (read_block b x)) d r tt h

  module _ (t : Tables) (s : Sees true d v t) where
    pub read_out : is_block b && eqb (length x) 256 ≡ false → Reads (Err OutOfRange) x
    unfolding refusal questions look_questions number
    read_out w = read-refused OutOfRange (seen _ s ∙ ask-no 5 _ _ w)

    -- behind question 5, with what the tables answer
    module _ (w : is_block b && eqb (length x) 256 ≡ true) (o : Bool) (f : OfShown t (λ rs. IsBlock b → o ≡ placed b rs)) where
      placed-view : placed b (view d v).lists ≡ o
      placed-view = sym (placed-told d t (view d v) s.located b o f (read-range b (length x) w).0)

      pub read-unplaced : o ≡ false → Reads (Err BlockNotPlaced) x
      unfolding refusal questions look_questions number
      read-unplaced h = read-refused BlockNotPlaced (seen _ s ∙ ask-yes 5 _ _ w ∙ ask-no 8 _ _ (placed-view ∙ h))

      module _ (h : o ≡ true) (m : ℕ) (g : OfShown t (λ rs. placed b rs ≡ true → content_of rs b ≡ located_at m)) where
        content-view : content_of (view d v).lists b ≡ map (contents d) (located_at m)
        content-view = content-told d t (view d v) s.located b m g (placed-view ∙ h)

        -- location 0: nothing was written
        pub read-unwritten : not (eqb m 0) ≡ false → Reads (Err Unwritten) x
        unfolding refusal questions look_questions number written is_some
        read-unwritten z =
            read-refused Unwritten
            (seen _ s ∙ ask-yes 5 _ _ w ∙ ask-yes 8 _ _ (placed-view ∙ h) ∙ ask-no 15 _ _ (ap is_some (content-view ∙ ap (λ (n : ℕ). map (contents d) (located_at n)) (eqb-true m 0 (not-false _ z)))))

        -- any other is one of 256 bytes
        module _ (z : not (eqb m 0) ≡ true) where
          content-some : content_of (view d v).lists b ≡ some (contents d m)
          content-some = content-view ∙ ap (map (contents d)) (located-some m (eqb-neq m 0 (not-true _ z)))

          pub read-sized : length (contents d m).body ≡ 256
          read-sized = view-sized d s.lengths s.sound v b (contents d m) s.opened content-some

          pub read-given : (y : List ℕ) (n : ℕ) → y ≡ (contents d m).body → n ≡ (contents d m).race → Reads (Ok n) y
          unfolding refusal questions look_questions accepted found read_to read_answer written is_some
          read-given y n e k =
              performs-accepted (in_view v (read_block b x)) d _
              (seen _ s ∙ ask-yes 5 _ _ w ∙ ask-yes 8 _ _ (placed-view ∙ h) ∙ last-yes 15 _ (ap is_some content-some)) (rw (content-some, read_to, e, k))
