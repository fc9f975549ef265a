-- What a line of a script asks for: the rows of the language's table, in order.
use Rattle.std.specs.Prelude.{Bool, ◌&&◌, ◌||◌, cond, Option, None, Some, List, [], ◌∷◌, ℕ, leb, ltb, eqb, length, get_or}
use Prim.Native.String.{String}
use Rattle.std.proofs.Math.Seq.{slice}
use Rattle.std.specs.Option.{option_map, option_and_then}
use Rattle.text.specs.declared.word.Word.{Word}
use Rattle.text.specs.Hex.{is_hex}
use Rattle.text.specs.Line.{word_from, same}
use Rattle.script.specs.declared.command.Command.{Command}
use Rattle.script.specs.declared.command.Command.TheVariants as C
use Rattle.script.specs.declared.command.Request.TheVariants as Q
use Rattle.script.specs.declared.command.Edit.{Edit}
use Rattle.script.specs.declared.command.Edit.TheVariants as E
use Rattle.script.specs.declared.command.Look.{Look}
use Rattle.script.specs.declared.command.Look.TheVariants as K
use Rattle.script.specs.declared.command.Tool.TheVariants as S
use Rattle.script.specs.declared.command.Cut.TheVariants as X
use Rattle.script.specs.declared.command.Lend.TheVariants as L
use Rattle.script.specs.declared.command.Print.TheVariants as P
use Rattle.script.specs.Arguments.{text_of, number_at, ended_at, pair, triple, one_from, two_from, three_from, window_from, part_from, lent_from, raced_from}
use Rattle.script.specs.Spelling.{bytes}

-- "Anything else that is not a command below, with its words, prints `?` and does nothing.": it is no command
abbrev pub of_one : (ℕ → Command) → Option ℕ → Option Command
of_one f n = option_map f n

abbrev pub of_two : (ℕ → ℕ → Command) → Option (ℕ × ℕ) → Option Command
of_two f n = option_map (λ p. f p.0 p.1) n

abbrev pub of_three : (ℕ → ℕ → ℕ → Command) → Option (ℕ × ℕ × ℕ) → Option Command
of_three f n = option_map (λ p. f p.0 p.1 p.2) n

-- "Changes come on stream 0 (simple; queued) or 1 to 4", look-ups in a view
abbrev pub on_stream : ℕ → Edit → Command
on_stream s e = C.Call (Q.Edit s e)

abbrev pub in_view : ℕ → Look → Command
in_view v k = C.Call (Q.Look v k)

-- stream and block; bytes lent and race
abbrev pub of_write : Word → Option (ℕ × ℕ) → Option (ℕ × ℕ) → Option Command
of_write digits n m = option_and_then (λ p. of_two (λ k r. on_stream p.0 (E.Write p.1 k r digits)) m) n

-- "LEN bytes (0 to 266,240) of value BYTE"
abbrev pub card_of : Option (ℕ × ℕ) → Option Command
card_of n = option_and_then (λ p. cond (leb p.0 266240 && leb p.1 255) (Some (C.Tool (S.Card p.0 p.1))) None) n

abbrev pub poke_of : Option (ℕ × ℕ) → Option Command
poke_of n = option_and_then (λ p. cond (leb p.1 255) (Some (C.Tool (S.Poke p.0 p.1))) None) n

-- a command without further words
unfoldable pub alone : List ℕ → ℕ → Command → Option Command
alone line from c = cond (ended_at line from) (Some c) None

-- `S B HEX`, `S B HEX N`, `S B HEX N RACE`
unfoldable pub write_from : List ℕ → ℕ → Option Command
write_from line from =
    let s = word_from line from in
    let b = word_from line s.end in
    let x = word_from line b.end in
    cond (is_hex (text_of line x)) (of_write x (pair (number_at line s) (number_at line b)) (raced_from line x.end)) None

-- `V B`, `V B N`: "with N (0 to 300)"
unfoldable pub read_from : List ℕ → ℕ → Option Command
read_from line from =
    let v = word_from line from in
    let b = word_from line v.end in
    of_three (λ v b k. in_view v (K.Read b k)) (triple (number_at line v) (pair (number_at line b) (part_from line b.end 256 300)))

-- `U`, `U W`
unfoldable pub begin_from : List ℕ → ℕ → Option Command
begin_from line from =
    let u = word_from line from in
    of_two (λ u w. C.Call (Q.Begin u w)) (pair (number_at line u) (window_from line u.end))

-- a row of the table: a name, and what the words behind it make
pub record Row : Type 0 where
  pub name : String
  pub command : Option Command

infix 75 ◌⇒◌
abbrev pub ◌⇒◌ : String → Option Command → Row
s ⇒ c = record { name = s; command = c }

-- the row that the word names
unfoldable pub pick : List ℕ → List Row → Option Command → Option Command
pick word [] other = other
pick word (r ∷ rs) other = cond (same word (bytes r.name)) r.command (pick word rs other)

-- `flush N K`, `format K`
unfoldable pub cut_rows : List ℕ → ℕ → List Row
cut_rows line at =
    "flush" ⇒ of_two (λ n k. C.Tool (S.Cut (X.Flush n k))) (two_from line at)
    ∷ "format" ⇒ of_one (λ k. C.Tool (S.Cut (X.Format k))) (one_from line at)
    ∷ []

unfoldable pub cut_named : List ℕ → ℕ → ℕ → Option Command
cut_named line start at = pick (slice start at line) (cut_rows line at) None

-- nothing more, or one of these
unfoldable pub cut_from : List ℕ → ℕ → Option Command
cut_from line from = let w = word_from line from in cond (ended_at line from) (Some (C.Tool (S.Cut X.Between))) (cut_named line w.start w.end)

-- `card N`, `queue N`, `journal N`, `all`
unfoldable pub lend_rows : List ℕ → ℕ → List Row
lend_rows line at =
    "card" ⇒ of_one (λ n. C.Tool (S.Lend (L.Card n))) (one_from line at)
    ∷ "queue" ⇒ of_one (λ n. C.Tool (S.Lend (L.Queue n))) (one_from line at)
    ∷ "journal" ⇒ of_one (λ n. C.Tool (S.Lend (L.Journal n))) (one_from line at)
    ∷ "all" ⇒ alone line at (C.Tool (S.Lend L.All))
    ∷ []

unfoldable pub lend_named : List ℕ → ℕ → ℕ → Option Command
lend_named line start at = pick (slice start at line) (lend_rows line at) None

unfoldable pub lend_from : List ℕ → ℕ → Option Command
lend_from line from = let w = word_from line from in lend_named line w.start w.end

unfoldable pub first_rows : List ℕ → ℕ → List Row
first_rows line at =
    "card" ⇒ card_of (two_from line at)
    ∷ "format" ⇒ alone line at (C.Call Q.Format)
    ∷ "mount" ⇒ alone line at (C.Call Q.Mount)
    ∷ "begin" ⇒ begin_from line at
    ∷ "end" ⇒ of_one (λ u. C.Call (Q.End u)) (one_from line at)
    ∷ "newlist" ⇒ of_one (λ s. on_stream s E.NewList) (one_from line at)
    ∷ "newblock" ⇒ of_three (λ s l p. on_stream s (E.NewBlock l p)) (three_from line at)
    ∷ []

unfoldable pub middle_rows : List ℕ → ℕ → List Row
middle_rows line at =
    "write" ⇒ write_from line at
    ∷ "read" ⇒ read_from line at
    ∷ "delblock" ⇒ of_two (λ s b. on_stream s (E.DeleteBlock b)) (two_from line at)
    ∷ "dellist" ⇒ of_two (λ s l. on_stream s (E.DeleteList l)) (two_from line at)
    ∷ "flush" ⇒ of_one (λ n. C.Call (Q.Flush n)) (one_from line at)
    ∷ "next" ⇒ of_three (λ v l p. in_view v (K.Next l p)) (three_from line at)
    ∷ "conflicts" ⇒ of_one (λ w. C.Call (Q.Conflicts w)) (window_from line at)
    ∷ []

-- an inventory: "with N (0 to 300) N bytes are lent"; a page: "the buffer lent has 820 bytes, or N (0 to 1,000)"
unfoldable pub last_rows : List ℕ → ℕ → List Row
last_rows line at =
    "inventory" ⇒ of_two (λ v k. in_view v (K.Inventory k)) (lent_from line at 16 300)
    ∷ "page" ⇒ of_two (λ v k. in_view v (K.Page k)) (lent_from line at 820 1000)
    ∷ "cut" ⇒ cut_from line at
    ∷ "poke" ⇒ poke_of (two_from line at)
    ∷ "lend" ⇒ lend_from line at
    ∷ "sum" ⇒ alone line at (C.Tool (S.Print P.Sum))
    ∷ "list" ⇒ alone line at (C.Tool (S.Print P.Listing))
    ∷ "show" ⇒ of_one (λ v. C.Tool (S.Print (P.Show v))) (one_from line at)
    ∷ []

-- a line whose name stands between two positions
unfoldable pub last_named : List ℕ → ℕ → ℕ → Option Command
last_named line start at = pick (slice start at line) (last_rows line at) None

unfoldable pub middle_named : List ℕ → ℕ → ℕ → Option Command
middle_named line start at = pick (slice start at line) (middle_rows line at) (last_named line start at)

unfoldable pub named : List ℕ → ℕ → ℕ → Option Command
named line start at = pick (slice start at line) (first_rows line at) (middle_named line start at)

-- "Blank lines and lines that begin with `#`"
unfoldable pub is_quiet : List ℕ → Bool
is_quiet line = eqb (get_or line 0 0) 35 || ended_at line 0

-- "A line is at most 1,023 bytes (longer: `?`)."
unfoldable pub command_of : List ℕ → Option Command
command_of line = cond (ltb 1023 (length line)) None (cond (is_quiet line) (Some C.Nothing) (let w = word_from line 0 in named line w.start w.end))
