-- What the look-ups perform, from what the tables of a view answer.
use mathlib.Core.Path.{◌≡◌, sym, ap, ◌∙◌}
use mathlib.Core.Bool.{Bool, true, false, ◌&&◌, ◌||◌}
use mathlib.Core.List.{List, [], ◌++◌}
use Prim.Native.Nat.{ℕ, ◌+◌, ◌≤◌}
use native.Mathlib.Omega.{arith}
use lib.Dec.{leb, eqb}
use lib.ListN.{length, drop}
use lib.Seq.{sets-eq}
use Rattle.lists.specs.State.{Row, taken, on_list}
use Rattle.lists.specs.Lookup.{next_after, list_nums}
use Rattle.lists.specs.promises.Tables.{Tables, IsList, OfShown}
use Rattle.lists.proofs.Storing.{Stored}
use Rattle.lists.proofs.Basic.{leb-true}
use Rattle.card_log.specs.Entry.{is_list}
use Rattle.text.specs.Written.{written, Puts}
use Rattle.listing.specs.Page.{page_text}
use Rattle.listing.proofs.Pages.{page-map}
use Rattle.std.specs.Prelude.{Result, Ok, Err}
use Rattle.answers.specs.declared.Refusal.{Refusal}
use Rattle.answers.specs.declared.Refusal.TheVariants.{OutOfRange, ListNotTaken, PredecessorElsewhere, BufferTooShort}
use Rattle.disk.specs.Disk.{Disk, view}
use Rattle.disk.specs.Call.{block_after, inventory, page, in_view, lent_to, destination}
use Rattle.disk.specs.Questions.{predecessor_right, look_questions, questions, refusal}
use Rattle.disk.specs.Perform.{found, accepted}
use Rattle.answers.specs.Answers.{number, number_answer}
use Rattle.calls.specs.Performs.{Performs}
use Rattle.inspect.specs.promises.Inspect.{Sees}
use Rattle.inspect.specs.promises.Located.{contents}
use Rattle.inspect.proofs.Locating.{lists-here, on_list-here, list_nums-here, of-shown, taken-told, next_after-told}
use Rattle.inspect.proofs.Asking.{ask-yes, ask-no, last-yes}
use Rattle.calls.proofs.Refusing.{seen, position-range, usual-performs-refused, performs-accepted}

module _ (d : Disk) (v l p : ℕ) where
  abbrev Nexts : Result ℕ Refusal → Type 0
  Nexts r = Performs (in_view v (block_after l p)) d d (number_answer r) []

  next-refused : (x : Refusal) → refusal (in_view v (block_after l p)) d ≡ number x → Nexts (Err x)
  unfolding destination lent_to number_answer
  next-refused x h = usual-performs-refused (in_view v (block_after l p)) d x tt h

  module _ (t : Tables) (s : Sees true d v t) where
    pub next-out : is_list l && leb p 64 ≡ false → Nexts (Err OutOfRange)
    unfolding refusal questions look_questions number
    next-out a = next-refused OutOfRange (seen _ s ∙ ask-no 5 _ _ a)

    -- behind question 5, with what the tables answer
    module _ (w : is_list l && leb p 64 ≡ true) where
      abbrev TakenIs : Bool → Type 0
      TakenIs b = OfShown t (λ rs. IsList l → b ≡ taken l rs)

      abbrev FollowsIs : Bool → Type 0
      FollowsIs b = OfShown t (λ rs. b ≡ eqb p 0 || on_list l p rs)

      taken-view : (b : Bool) → TakenIs b → taken l (view d v).lists ≡ b
      taken-view b f = sym (taken-told d t (view d v) s.located l b f (position-range l p w).0)

      follows-view : (b : Bool) → FollowsIs b → eqb p 0 || on_list l p (view d v).lists ≡ b
      follows-view b f = rw (on_list-here d t (view d v) s.located l p) (sym (of-shown d t (view d v) s.located (λ rs. b ≡ eqb p 0 || on_list l p rs) f))

      pub next-untaken : (b : Bool) → TakenIs b → b ≡ false → Nexts (Err ListNotTaken)
      unfolding refusal questions look_questions number
      next-untaken b f h = next-refused ListNotTaken (seen _ s ∙ ask-yes 5 _ _ w ∙ ask-no 7 _ _ (taken-view b f ∙ h))

      module _ (b : Bool) (f : TakenIs b) (h : b ≡ true) where
        module _ (o : Bool) (g : FollowsIs o) where
          pub next-elsewhere : o ≡ false → Nexts (Err PredecessorElsewhere)
          unfolding refusal questions look_questions number predecessor_right
          next-elsewhere e =
              next-refused PredecessorElsewhere (seen _ s ∙ ask-yes 5 _ _ w ∙ ask-yes 7 _ _ (taken-view b f ∙ h) ∙ ask-no 9 _ _ (follows-view o g ∙ e))

          pub next-found : o ≡ true → (n : ℕ)
              → OfShown t (λ rs. taken l rs ≡ true → eqb p 0 || on_list l p rs ≡ true → n ≡ next_after rs l p) → Nexts (Ok n)
          unfolding refusal questions look_questions predecessor_right accepted found number_answer
          next-found e n k =
              performs-accepted (in_view v (block_after l p)) d _ (seen _ s ∙ ask-yes 5 _ _ w ∙ ask-yes 7 _ _ (taken-view b f ∙ h) ∙ last-yes 9 _ (follows-view o g ∙ e))
              (rw (next_after-told d t (view d v) s.located l p n k (taken-view b f ∙ h) (follows-view o g ∙ e)))

module _ (d : Disk) (v : ℕ) (x : List ℕ) where
  abbrev Inventories : Result ℕ Refusal → List ℕ → Type 0
  Inventories r y = Performs (in_view v (inventory x)) d d (number_answer r) y

  module _ (t : Tables) (s : Sees true d v t) where
    pub inventory-out : eqb (length x) 16 ≡ false → Inventories (Err OutOfRange) x
    unfolding refusal questions look_questions destination lent_to number_answer number
    inventory-out h = usual-performs-refused (in_view v (inventory x)) d OutOfRange tt (seen _ s ∙ ask-no 5 _ _ h)

    pub inventory-given : eqb (length x) 16 ≡ true → (n : ℕ) (y : List ℕ) → OfShown t (λ rs. Stored x (list_nums rs) n y) → Inventories (Ok n) y
    unfolding refusal questions look_questions accepted found number_answer
    inventory-given h n y f =
        let (a, b) = of-shown d t (view d v) s.located (λ rs. Stored x (list_nums rs) n y) f in
        performs-accepted (in_view v (inventory x)) d _ (seen _ s ∙ last-yes 5 _ h) (rw (list_nums-here d t (view d v) s.located, a, b))

-- A text put at the front of a buffer that it fits.
put_front : (x t y : List ℕ) (next n : ℕ) → Puts x 0 t y next → n ≡ length t → n ≤ length x → y ≡ t ++ drop n x
unfolding written
put_front x t y next n p e h =
    let same : 0 + length t ≡ n = omega arith in
    p.bytes ∙ sets-eq t x 0 (omega arith) ∙ ap (λ (k : ℕ). t ++ drop k x) same

module _ (d : Disk) (v : ℕ) (x : List ℕ) where
  abbrev Prints : Result ℕ Refusal → List ℕ → Type 0
  Prints r y = Performs (in_view v (page x)) d d (number_answer r) y

  module _ (t : Tables) (s : Sees true d v t) (n : ℕ) (f : OfShown t (λ rs. n ≡ length (page_text rs))) where
    abbrev here : List (Row ℕ)
    here = s.located.here.lists

    here-length : n ≡ length (page_text here)
    here-length = of-shown d t (view d v) s.located (λ rs. n ≡ length (page_text rs)) f

    page-view : page_text (view d v).lists ≡ page_text here
    page-view = ap page_text (lists-here d t (view d v) s.located) ∙ page-map (contents d) here

    view-length : length (page_text (view d v).lists) ≡ n
    view-length = ap length page-view ∙ sym here-length

    pub page-short : leb n (length x) ≡ false → Prints (Err BufferTooShort) x
    unfolding refusal questions look_questions destination lent_to number_answer number
    page-short h =
        usual-performs-refused (in_view v (page x)) d BufferTooShort tt
        (seen _ s ∙ ask-no 14 _ _ (ap (λ (k : ℕ). leb k (length x)) view-length ∙ h))

    pub page-given : leb n (length x) ≡ true → (y : List ℕ) (next : ℕ) → OfShown t (λ rs. Puts x 0 (page_text rs) y next) → Prints (Ok n) y
    unfolding refusal questions look_questions accepted found number_answer
    page-given h y next g =
        let p = put_front x (page_text here) y next n (of-shown d t (view d v) s.located (λ rs. Puts x 0 (page_text rs) y next) g) here-length (leb-true n (length x) h) in
        performs-accepted (in_view v (page x)) d _
        (seen _ s ∙ last-yes 14 _ (ap (λ (k : ℕ). leb k (length x)) view-length ∙ h))
        (rw (view-length, page-view, p))
