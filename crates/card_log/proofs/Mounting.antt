-- What mounting on lent tables says: all that mounting does (`mounts`), and that the tables show the free numbers of the state mounted, in their order
-- (`mounted-shown`).
use mathlib.Core.Path.{◌≡◌, sym, ap, ◌∙◌, subst}
use mathlib.Core.List.{List}
use Prim.Native.Nat.{ℕ}
use Rattle.lists.specs.State.{Row, State}
use Rattle.lists.specs.promises.Tables.{Tables, ShowsWith}
use Rattle.card_log.specs.Reader.{Reader}
use Rattle.card_log.specs.Card.{Written, Outcome, sound, mounted}
use Rattle.card_log.specs.promises.Mount.{AcceptableOn, Mounts, MountsOn}
use Rattle.card_log.specs.declared.place.Place.{Place}
use Rattle.card_log.specs.declared.mount.Mounted.{Mounted}
use Rattle.card_log.specs.declared.mount.Mounted.TheVariants.{WrongLength, Fault, Sound}

pub mounts : (c : List ℕ) (t : Tables) (r : Mounted) → MountsOn c r t → Mounts c r
mounts c t WrongLength h = h
mounts c t (Fault g i) h = h
mounts c t (Sound p) h = h.accepts

pub mounted-shown : (c : List ℕ) (p : Place) (t : Tables) (r : Reader Written) → AcceptableOn c p t → mounted c ≡ sound r
    → (rs : List (Row ℕ)) × ShowsWith t rs r.state.free
mounted-shown c p t r a m =
    let h : ◌≡◌ {A = Outcome Written} (sound a.accepts.reader) (sound r) = sym a.accepts.walked ∙ m in
    let e : a.accepts.reader ≡ r = cc in
    let q : a.here.free ≡ r.state.free = ap (λ (s : State Written). s.free) (sym a.means) ∙ ap (λ (x : Reader Written). x.state.free) e in
    (a.here.lists, subst (ShowsWith t a.here.lists) q a.shows)
