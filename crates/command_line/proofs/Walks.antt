-- What clap makes of the words is what the pieces are.
use Rattle.std.proofs.Common.{◌≡◌, ◌∙◌, inl, inr, ℕ, Bool, true, false, cond, ◌||◌, ◌&&◌, ◌==◌, List, [], ◌∷◌, ◌++◌, map, length, drop, Option, Some, None, refl, sym, ap, ap₂, subst, bytes_eq, nat_lt, append-nil, append_assoc}
use Rattle.std.specs.Prelude.{⊤, encode_utf8, is_some, slice_get, String, string_bytes}
use Rattle.std.specs.List.{AllByRecursion, fold}
use Rattle.std.specs.Option.{option_and_then, option_map, option_map_or}
use Rattle.std.specs.Str.{IsUtf8, chars}
use Rattle.std.proofs.lemmas.Str.{IsUtf8-string_bytes}
use Rattle.clap.specs.declared.builder.value_parser.Reading.TheVariants as reading
use Rattle.clap.specs.declared.error.Error.{Error}
use Rattle.clap.specs.declared.error.kind.ErrorKind.TheVariants as kind
use Rattle.clap.specs.declared.parser.matches.ValueSource.TheVariants.{CommandLine}
use Rattle.clap.specs.Faults.{built_fault, bundle_fault, bundle_step_fault, check_fault, fault_of, flag_word_fault, flags_fault, long_fault, option_fault, other_fault, positional_fault, react_fault, settle_fault, short_fault, step_fault, stray_fault, turn_fault, use_fault, walk_fault, word_fault}
use Rattle.clap.specs.Kinds.{HasKind, Kinds, or_else}
use Rattle.clap.specs.Lexer.{long_of, long_of_rest, short_of}
use Rattle.clap.specs.Simple.{App, matches_of, names_of}
use Rattle.clap.specs.Values.{kind_of}
use Rattle.clap.specs.Walk.{Held, Outcome, Row, Rule, Step, Text, Waiting, Walk, idle, option, positional, next, value, trailing as trailing_step, after_flag, after_step, arg_by_long, arg_by_short, finished, flag_met, is_pending, long_met, long_or_other, most_values, nothing_held, option_met, option_word, plain_word, pushed, rows_after, settled, settled_rows, short_or_plain, subcommand_met, subcommand_or_other, takes_values, to_positional, used, used_by_id, walked, word_met}
use Rattle.clap.proofs.FaultLemmas.{leaf_fault}
use Rattle.command_line.specs.declared.setting.Setting.{Setting}
use Rattle.command_line.specs.declared.setting.Setting.TheVariants.{Input, Max, Trace, Count, Standard, Foreign, Thrown}
use Rattle.command_line.specs.Matches.{Shows, ShowsRead, app_of_settings, operand_name}
use Rattle.command_line.specs.Pieces.{Piece, Operand, Given, before, is_dashed, met, met_option, named, pieces_of, setting_of}
use Rattle.command_line.specs.Parted.{parted}
use Rattle.command_line.specs.Setting.{has_value, name_of}
use Rattle.command_line.proofs.Texts.{and_false, text_itself}
use Rattle.command_line.proofs.Rules.{app_built, built_is, by_index, by_long, by_short, found_again, no_default_faults, no_defaults, nothing_missing, operand_built, operand_by_id, option_built, option_by_id, rules, shape}
use Rattle.command_line.proofs.Rows.{shows_more}
use Rattle.command_line.proofs.Shapes.{IsPlain, IsShort, Shape, parted_is, shape_of, some_char}

abbrev Pending : Type 0
Pending = Option (Text × List Text)

-- what is held, and where the walk over the words behind a verb stands
abbrev held : List Row → Pending → Held
held rows pending = record { rows = rows; pending = pending; skip = 0 }

abbrev at : List Row → Pending → Waiting → Bool → Walk
at rows pending waiting trailing = record {
  held = held rows pending;
  waiting = waiting;
  position = 1;
  is_trailing = trailing;
  stopped = None;
}

abbrev end_of : List Setting → Walk → List Text → Walk
end_of ss w words = fold (walked (rules ss) []) w words

abbrev settle : List Setting → List Row → Pending → Kinds
settle ss rows pending = settle_fault (rules ss) false (held rows pending)

-- what fails from there on, and which rows there are in the end
abbrev faults : List Setting → Walk → List Text → Kinds
faults ss w words = or_else (walk_fault (shape ss) [] w words) (settle_fault (rules ss) false (end_of ss w words).held)

abbrev final : List Setting → Walk → List Text → List Row
final ss w words = (settled (rules ss) (end_of ss w words).held).rows

-- It fails where no pieces are read; else it does not, and shows the pieces so far and those that are read.
abbrev pub Agrees : Kinds → List Row → List Piece → Option (List Piece) → Type 0
Agrees kinds rows so_far None = kinds ≡ [] → ⊥
Agrees kinds rows so_far (Some ps) = (kinds ≡ []) × Shows rows (so_far ++ ps)

abbrev Goes : List Setting → Walk → List Text → List Piece → Option (List Piece) → Type 0
Goes ss w words so_far read = Agrees (faults ss w words) (final ss w words) so_far read

-- ---- one word, and the others

first_none : (x y : Kinds) → or_else x y ≡ [] → x ≡ []
first_none [] y e = refl
first_none (k ∷ ks) y e = absurd (cc)

past : (t x y : Kinds) → t ≡ [] → or_else (or_else t x) y ≡ or_else x y
past [] x y e = refl
past (k ∷ ks) x y e = absurd (cc)

first_of_three : (t x y : Kinds) → or_else (or_else t x) y ≡ [] → t ≡ []
first_of_three [] x y e = refl
first_of_three (k ∷ ks) x y e = absurd (cc)

-- the walk goes on where this word has no fault
go_on : (ss : List Setting) (w new : Walk) (word : Text) (words : List Text) (so_far : List Piece) (read : Option (List Piece))
    → turn_fault (shape ss) [] w word ≡ [] → walked (rules ss) [] w word ≡ new → Goes ss new words so_far read → Goes ss w (word ∷ words) so_far read
unfolding walk_fault
go_on ss w new word words so_far read none goes agrees =
    let from = walked (rules ss) [] w word in
    let back : Goes ss from words so_far read = subst (λ (x : Walk). Goes ss x words so_far read) (sym goes) agrees in
    subst (λ (k : Kinds). Agrees k (final ss from words) so_far read)
    (sym (past (turn_fault (shape ss) [] w word) (walk_fault (shape ss) [] from words) (settle_fault (rules ss) false (end_of ss from words).held) none)) back

stuck : (ss : List Setting) (w : Walk) (word : Text) (words : List Text) → (turn_fault (shape ss) [] w word ≡ [] → ⊥) → faults ss w (word ∷ words) ≡ [] → ⊥
unfolding walk_fault
stuck ss w word words fails e =
    let from = walked (rules ss) [] w word in
    fails (first_of_three (turn_fault (shape ss) [] w word) (walk_fault (shape ss) [] from words) (settle_fault (rules ss) false (end_of ss from words).held) e)

-- a piece that was read is one of those so far
one_more : (ss : List Setting) (w : Walk) (words : List Text) (so_far : List Piece) (p : Piece) (read : Option (List Piece))
    → Goes ss w words (so_far ++ p ∷ []) read → Goes ss w words so_far (before p read)
one_more ss w words so_far p None a = a
one_more ss w words so_far p (Some ps) a = (a.0, subst (Shows (final ss w words)) (append_assoc so_far (p ∷ []) ps) a.1)

nothing_more : (rows : List Row) (so_far : List Piece) → Shows rows so_far → Shows rows (so_far ++ [])
nothing_more rows so_far shows = subst (Shows rows) (sym (append-nil so_far)) shows

-- ---- an operand

abbrev IsFree : Waiting → Type 0
IsFree idle = ⊤
IsFree (option id) = ⊥
IsFree positional = ⊤

no_subcommand : (waiting : Waiting) (word : Text) → subcommand_met [] waiting word ≡ None
no_subcommand idle word = refl
no_subcommand (option id) word = refl
no_subcommand positional word = refl

free_word : (c : List Rule) (waiting : Waiting) (word : Text) (h : Held) → IsFree waiting → plain_word c waiting word h ≡ (h, value)
free_word c idle word h free = refl
free_word c (option id) word h free = absurd free
free_word c positional word h free = refl

-- an operand goes to the one positional, and what waits is settled before
step_is : (ss : List Setting) (rows : List Row) (pending : Pending) → step_fault (shape ss) 1 (held rows pending) value ≡ settle ss rows pending
step_is ss rows pending =
    ap (λ (o : Option Rule). option_map_or (λ a. positional_fault (rules ss) false a (held rows pending)) o (stray_fault (shape ss))) (by_index ss)
    ∙ ap (λ (b : Bool). cond b [] (settle ss rows pending)) (and_false (is_pending operand_built pending))

operand_next : (ss : List Setting) (rows : List Row) (pending : Pending) (waiting : Waiting) (trailing : Bool) (word : Text)
    → after_step (rules ss) word (at rows pending waiting trailing) (held rows pending) value
    ≡ at (settled_rows (rules ss) pending rows) (Some (operand_name, word ∷ [])) positional (trailing || false)
operand_next ss rows pending waiting trailing word =
    ap (λ (o : Option Rule). to_positional (rules ss) o word (at rows pending waiting trailing) (held rows pending)) (by_index ss)
    ∙ ap (λ (b : Bool). record {
      held = pushed operand_name word (cond b (held rows pending) (settled (rules ss) (held rows pending)));
      waiting = positional;
      position = 1;
      is_trailing = trailing || false;
      stopped = None;
    }) (and_false (is_pending operand_built pending))

-- the operand that waits to be settled
operand_settles : (ss : List Setting) (rows : List Row) (word : Text) → settle ss rows (Some (operand_name, word ∷ [])) ≡ []
operand_settles ss rows word = ap (λ (o : Option Rule). option_map_or (λ a. use_fault false a (word ∷ []) rows) o []) (operand_by_id ss)

operand_shows : (ss : List Setting) (rows : List Row) (word : Text) (so_far : List Piece) → Shows rows so_far
    → Shows (settled_rows (rules ss) (Some (operand_name, word ∷ [])) rows) (so_far ++ Operand word ∷ [])
operand_shows ss rows word so_far shows =
    subst (λ (rs : List Row). Shows rs (so_far ++ Operand word ∷ []))
    (ap (λ (o : Option Rule). used_by_id o (word ∷ []) rows) (sym (operand_by_id ss)))
    (shows_more rows so_far (Operand word) reading.AsWritten CommandLine shows)

-- behind `--` each word is an operand
trailing : (ss : List Setting) (words : List Text) (rows : List Row) (pending : Pending) (waiting : Waiting) (so_far : List Piece)
    → settle ss rows pending ≡ [] → Shows (settled_rows (rules ss) pending rows) so_far
    → Goes ss (at rows pending waiting true) words so_far (Some (map (λ w. Operand w) words))
unfolding walked walk_fault
trailing ss [] rows pending waiting so_far settles shows = (settles, nothing_more (settled_rows (rules ss) pending rows) so_far shows)
trailing ss (word ∷ words) rows pending waiting so_far settles shows =
    let now = settled_rows (rules ss) pending rows in
    let new = at now (Some (operand_name, word ∷ [])) positional true in
    let others = Some (map (λ w. Operand w) words) in
    go_on ss (at rows pending waiting true) new word words so_far (before (Operand word) others)
    (step_is ss rows pending ∙ settles)
    (operand_next ss rows pending waiting true word)
    (one_more ss new words so_far (Operand word) others
    (trailing ss words now (Some (operand_name, word ∷ [])) positional (so_far ++ Operand word ∷ []) (operand_settles ss now word) (operand_shows ss now word so_far shows)))

-- ---- words before `--`

-- what the walk makes of a word, and the word's own faults
abbrev step_at : List Setting → Waiting → Text → Held → Held × Step
step_at ss waiting word h = subcommand_or_other (rules ss) None waiting 1 word h

abbrev fault_at : List Setting → Text → Held → Kinds
fault_at ss word h = other_fault (shape ss) None word h

word_is : (ss : List Setting) (waiting : Waiting) (word : Text) (h : Held) → word_met (rules ss) [] false waiting 1 word h ≡ step_at ss waiting word h
word_is ss waiting word h = ap (λ (o : Option Text). subcommand_or_other (rules ss) o waiting 1 word h) (no_subcommand waiting word)

fault_is : (ss : List Setting) (waiting : Waiting) (word : Text) (h : Held) → word_fault (shape ss) [] false waiting word h ≡ fault_at ss word h
fault_is ss waiting word h = ap (λ (o : Option Text). other_fault (shape ss) o word h) (no_subcommand waiting word)

-- a word has no fault where neither itself nor its step has one
turn_by : (ss : List Setting) (rows : List Row) (pending : Pending) (waiting : Waiting) (word : Text) (h : Held) (step : Step)
    → step_at ss waiting word (held rows pending) ≡ (h, step) → fault_at ss word (held rows pending) ≡ [] → step_fault (shape ss) 1 h step ≡ []
    → turn_fault (shape ss) [] (at rows pending waiting false) word ≡ []
turn_by ss rows pending waiting word h step is own after =
    let now = held rows pending in
    ap (λ (m : Held × Step). or_else (word_fault (shape ss) [] false waiting word now) (step_fault (shape ss) 1 m.0 m.1)) (word_is ss waiting word now ∙ is)
    ∙ (ap (λ (k : Kinds). or_else k (step_fault (shape ss) 1 h step)) (fault_is ss waiting word now ∙ own) ∙ after)

turn_fails : (ss : List Setting) (rows : List Row) (pending : Pending) (waiting : Waiting) (word : Text)
    → (fault_at ss word (held rows pending) ≡ [] → ⊥) → turn_fault (shape ss) [] (at rows pending waiting false) word ≡ [] → ⊥
turn_fails ss rows pending waiting word fails e =
    let now = held rows pending in
    let m = word_met (rules ss) [] false waiting 1 word now in
    fails (sym (fault_is ss waiting word now) ∙ first_none (word_fault (shape ss) [] false waiting word now) (step_fault (shape ss) 1 m.0 m.1) e)

walks_by : (ss : List Setting) (rows : List Row) (pending : Pending) (waiting : Waiting) (word : Text) (h : Held) (step : Step)
    → step_at ss waiting word (held rows pending) ≡ (h, step)
    → walked (rules ss) [] (at rows pending waiting false) word ≡ after_step (rules ss) word (at rows pending waiting false) h step
unfolding walked
walks_by ss rows pending waiting word h step is =
    ap (λ (m : Held × Step). after_step (rules ss) word (at rows pending waiting false) m.0 m.1) (word_is ss waiting word (held rows pending) ∙ is)

on_to : (ss : List Setting) (rows : List Row) (pending : Pending) (waiting : Waiting) (word : Text) (words : List Text) (so_far : List Piece)
    (h : Held) (step : Step) (new : Walk) (read : Option (List Piece))
    → step_at ss waiting word (held rows pending) ≡ (h, step) → fault_at ss word (held rows pending) ≡ [] → step_fault (shape ss) 1 h step ≡ []
    → after_step (rules ss) word (at rows pending waiting false) h step ≡ new
    → Goes ss new words so_far read → Goes ss (at rows pending waiting false) (word ∷ words) so_far read
on_to ss rows pending waiting word words so_far h step new read is own after goes agrees =
    go_on ss (at rows pending waiting false) new word words so_far read
    (turn_by ss rows pending waiting word h step is own after) (walks_by ss rows pending waiting word h step is ∙ goes) agrees

-- ---- a word that is no option

plain_step_is : (ss : List Setting) (waiting : Waiting) (word : Text) (h : Held) → IsPlain word → step_at ss waiting word h ≡ plain_word (rules ss) waiting word h
plain_step_is ss waiting word h plain =
    ap (λ (b : Bool). cond b (h, trailing_step 1) (long_or_other (rules ss) waiting word (long_of word) h)) plain.dashes
    ∙ (ap (λ (l : Option (Text × Option Text)). long_or_other (rules ss) waiting word l h) plain.long
    ∙ ap (λ (s : Option Text). short_or_plain (rules ss) waiting word s h) plain.short)

-- a word that is neither `--` nor an option, by what follows its dash
undashed_fault : (ss : List Setting) (word : Text) (h : Held) (flags : Option Text) → bytes_eq word (45 ∷ 45 ∷ []) ≡ false → long_of word ≡ None → short_of word ≡ flags
    → fault_at ss word h ≡ option_map_or (λ f. bundle_fault (rules ss) false f h) flags []
undashed_fault ss word h flags dashes long short =
    ap (λ (b : Bool). cond b [] (flag_word_fault (rules ss) false (long_of word) word h)) dashes
    ∙ (ap (λ (l : Option (Text × Option Text)). flag_word_fault (rules ss) false l word h) long
    ∙ ap (λ (s : Option Text). option_map_or (λ f. bundle_fault (rules ss) false f h) s []) short)

plain_fault : (ss : List Setting) (word : Text) (h : Held) → IsPlain word → fault_at ss word h ≡ []
plain_fault ss word h plain = undashed_fault ss word h None plain.dashes plain.long plain.short

-- ---- a word with one dash

short_fails : (ss : List Setting) (rows : List Row) (pending : Pending) (first : ℕ) (rest : Text) → (first == 45) ≡ false → IsUtf8 (45 ∷ first ∷ rest)
    → fault_at ss (45 ∷ first ∷ rest) (held rows pending) ≡ [] → ⊥
unfolding flags_fault
short_fails ss rows pending first rest other text e =
    let c = some_char first rest text in
    let below = flags_fault (rules ss) false (length rest) (drop (length (encode_utf8 c.0)) (first ∷ rest)) 0 in
    let dashes : bytes_eq (45 ∷ first ∷ rest) (45 ∷ 45 ∷ []) ≡ false = ap (λ (b : Bool). b && bytes_eq rest []) other in
    let long : long_of (45 ∷ first ∷ rest) ≡ None = ap (λ (b : Bool). option_and_then long_of_rest (cond b (Some rest) None)) other in
    let short : short_of (45 ∷ first ∷ rest) ≡ Some (first ∷ rest) = ap (λ (b : Bool). cond b None (Some (first ∷ rest))) other in
    let whole : fault_at ss (45 ∷ first ∷ rest) (held rows pending) ≡ bundle_step_fault (rules ss) false (slice_get (chars (first ∷ rest)) 0) (first ∷ rest) 0 (held rows pending) (flags_fault (rules ss) false (length rest)) =
    undashed_fault ss (45 ∷ first ∷ rest) (held rows pending) (Some (first ∷ rest)) dashes long short in
    let at_char : fault_at ss (45 ∷ first ∷ rest) (held rows pending) ≡ short_fault (rules ss) false (arg_by_short (rules ss) c.0) (drop (length (encode_utf8 c.0)) (first ∷ rest)) (held rows pending) below =
    whole ∙ ap (λ (o : Option ℕ). bundle_step_fault (rules ss) false o (first ∷ rest) 0 (held rows pending) (flags_fault (rules ss) false (length rest))) c.1 in
    let unknown : fault_at ss (45 ∷ first ∷ rest) (held rows pending) ≡ kind.UnknownArgument ∷ [] =
    at_char ∙ ap (λ (o : Option Rule). short_fault (rules ss) false o (drop (length (encode_utf8 c.0)) (first ∷ rest)) (held rows pending) below) (by_short ss c.0) in
    let bad : kind.UnknownArgument ∷ [] ≡ [] = sym unknown ∙ e in
    absurd (cc)

word_short_fails : (ss : List Setting) (rows : List Row) (pending : Pending) (word : Text) → IsShort word → IsUtf8 word → fault_at ss word (held rows pending) ≡ [] → ⊥
word_short_fails ss rows pending word short text e =
    short_fails ss rows pending short.first short.rest short.other (subst IsUtf8 short.word_is text) (ap (λ (t : Text). fault_at ss t (held rows pending)) (sym short.word_is) ∙ e)

-- ---- a use of an option

takes : (s : Setting) → takes_values (option_built s) ≡ has_value s
takes Input = refl
takes Max = refl
takes Trace = refl
takes Count = refl
takes Standard = refl
takes Foreign = refl
takes Thrown = refl

valued_use : (s : Setting) (v : Text) (rows : List Row) → has_value s ≡ true → use_fault false (option_built s) (v ∷ []) rows ≡ []
valued_use Input v rows e = refl
valued_use Max v rows e = refl
valued_use Trace v rows e = absurd (cc)
valued_use Count v rows e = absurd (cc)
valued_use Standard v rows e = refl
valued_use Foreign v rows e = refl
valued_use Thrown v rows e = refl

open_use : (s : Setting) (rows : List Row) → has_value s ≡ true → use_fault false (option_built s) [] rows ≡ [] → ⊥
open_use Input rows e f = cc
open_use Max rows e f = cc
open_use Trace rows e f = cc
open_use Count rows e f = cc
open_use Standard rows e f = cc
open_use Foreign rows e f = cc
open_use Thrown rows e f = cc

switch_use : (s : Setting) (rows : List Row) → has_value s ≡ false → use_fault false (option_built s) [] rows ≡ []
switch_use Input rows e = absurd (cc)
switch_use Max rows e = absurd (cc)
switch_use Trace rows e = refl
switch_use Count rows e = refl
switch_use Standard rows e = absurd (cc)
switch_use Foreign rows e = absurd (cc)
switch_use Thrown rows e = absurd (cc)

one_value : (s : Setting) → has_value s ≡ true → most_values (option_built s) ≡ 1
one_value s e = ap (λ (b : Bool). cond b 1 0) e

-- what waits is settled with the value
valued_settles : (ss : List Setting) (s : Setting) (v : Text) (rows : List Row) → setting_of ss (name_of s) ≡ Some s → has_value s ≡ true → settle ss rows (Some (name_of s, v ∷ [])) ≡ []
valued_settles ss s v rows known has = ap (λ (o : Option Rule). option_map_or (λ a. use_fault false a (v ∷ []) rows) o []) (option_by_id ss s known) ∙ valued_use s v rows has

valued_shows : (ss : List Setting) (s : Setting) (v : Text) (rows : List Row) (so_far : List Piece) → setting_of ss (name_of s) ≡ Some s → Shows rows so_far
    → Shows (settled_rows (rules ss) (Some (name_of s, v ∷ [])) rows) (so_far ++ Given s v ∷ [])
valued_shows ss s v rows so_far known shows =
    subst (λ (rs : List Row). Shows rs (so_far ++ Given s v ∷ []))
    (ap (λ (o : Option Rule). used_by_id o (v ∷ []) rows) (sym (option_by_id ss s known)))
    (shows_more rows so_far (Given s v) reading.AsWritten CommandLine shows)

-- an option without its value fails
open_fails : (ss : List Setting) (s : Setting) (rows : List Row) → setting_of ss (name_of s) ≡ Some s → has_value s ≡ true → settle ss rows (Some (name_of s, [])) ≡ [] → ⊥
open_fails ss s rows known has e =
    open_use s rows has (sym (ap (λ (o : Option Rule). option_map_or (λ a. use_fault false a [] rows) o []) (option_by_id ss s known)) ∙ e)

-- ---- the claim, where nothing waits and where an option waits for its value

abbrev Ready : List Setting → List Text → Type 0
Ready ss words = (rows : List Row) (pending : Pending) (waiting : Waiting) (so_far : List Piece) → IsFree waiting → settle ss rows pending ≡ []
    → Shows (settled_rows (rules ss) pending rows) so_far → Goes ss (at rows pending waiting false) words so_far (pieces_of ss words None)

abbrev open_at : List Row → Setting → Walk
open_at rows s = at rows (Some (name_of s, [])) (option (name_of s)) false

abbrev Waits : List Setting → List Text → Type 0
Waits ss words = (rows : List Row) (s : Setting) (so_far : List Piece) → setting_of ss (name_of s) ≡ Some s → has_value s ≡ true → Shows rows so_far
    → Goes ss (open_at rows s) words so_far (pieces_of ss words (Some s))

-- ---- an option

abbrev name_at : Text → Text
name_at text = (parted 61 text).0

abbrev value_at : Text → Option Text
value_at text = (parted 61 text).1

abbrev two_dashes : ℕ → Text → Text
two_dashes x xs = 45 ∷ 45 ∷ x ∷ xs

abbrev rule_at : List Setting → ℕ → Text → Option Rule
rule_at ss x xs = option_map option_built (setting_of ss (name_at (x ∷ xs)))

long_fault_is : (ss : List Setting) (x : ℕ) (xs : Text) (h : Held) → fault_at ss (two_dashes x xs) h ≡ long_fault (rules ss) false (rule_at ss x xs) (value_at (x ∷ xs)) h
long_fault_is ss x xs h =
    ap (λ (p : Text × Option Text). long_fault (rules ss) false (arg_by_long (rules ss) p.0) p.1 h) (parted_is (x ∷ xs))
    ∙ ap (λ (o : Option Rule). long_fault (rules ss) false o (value_at (x ∷ xs)) h) (by_long ss (name_at (x ∷ xs)))

abbrev flagged : List Setting → Waiting → Text → Held × Outcome → Held × Step
flagged ss waiting word m = after_flag (rules ss) waiting word m.0 m.1

long_step_is : (ss : List Setting) (x : ℕ) (xs : Text) (waiting : Waiting) (h : Held)
    → step_at ss waiting (two_dashes x xs) h ≡ flagged ss waiting (two_dashes x xs) (long_met (rules ss) (rule_at ss x xs) (value_at (x ∷ xs)) h)
long_step_is ss x xs waiting h =
    ap (λ (p : Text × Option Text). flagged ss waiting (two_dashes x xs) (long_met (rules ss) (arg_by_long (rules ss) p.0) p.1 h)) (parted_is (x ∷ xs))
    ∙ ap (λ (o : Option Rule). flagged ss waiting (two_dashes x xs) (long_met (rules ss) o (value_at (x ∷ xs)) h)) (by_long ss (name_at (x ∷ xs)))

-- what clap makes of an option, by whether it has a value
met_as : (ss : List Setting) (s : Setting) (b : Bool) (v : Option Text) (h : Held) → has_value s ≡ b
    → long_met (rules ss) (Some (option_built s)) v h ≡ cond b (option_met (rules ss) (option_built s) v h) (flag_met (rules ss) (option_built s) v h)
met_as ss s b v h e = ap (λ (t : Bool). cond t (option_met (rules ss) (option_built s) v h) (flag_met (rules ss) (option_built s) v h)) (takes s ∙ e)

abbrev switch_fault : List Setting → Setting → Option Text → Held → Kinds
switch_fault ss s v h = cond (is_some v) (kind.TooManyValues ∷ []) (react_fault (rules ss) false (option_built s) [] h)

fault_as : (ss : List Setting) (s : Setting) (b : Bool) (v : Option Text) (h : Held) → has_value s ≡ b
    → long_fault (rules ss) false (Some (option_built s)) v h ≡ cond b (option_fault (rules ss) false (option_built s) v h) (switch_fault ss s v h)
fault_as ss s b v h e = ap (λ (t : Bool). cond t (option_fault (rules ss) false (option_built s) v h) (switch_fault ss s v h)) (takes s ∙ e)

-- an option that is met, where nothing waits
pub record Meets (ss : List Setting) (x : ℕ) (xs : Text) (rows : List Row) (pending : Pending) (waiting : Waiting) (o : Option Setting) (v : Option Text) : Type 0 where
  pub fault : fault_at ss (two_dashes x xs) (held rows pending) ≡ long_fault (rules ss) false (option_map option_built o) v (held rows pending)
  pub step : step_at ss waiting (two_dashes x xs) (held rows pending) ≡ flagged ss waiting (two_dashes x xs) (long_met (rules ss) (option_map option_built o) v (held rows pending))

-- a whole option is one more piece
whole : (ss : List Setting) (x : ℕ) (xs : Text) (words : List Text) → Ready ss words → (rows : List Row) (pending : Pending) (waiting : Waiting) (so_far : List Piece)
    (s : Setting) (v : Text) → Shows (settled_rows (rules ss) pending rows) so_far
    → fault_at ss (two_dashes x xs) (held rows pending) ≡ []
    → step_at ss waiting (two_dashes x xs) (held rows pending) ≡ (held (used (option_built s) (v ∷ []) (settled_rows (rules ss) pending rows)) None, next idle)
    → Goes ss (at rows pending waiting false) (two_dashes x xs ∷ words) so_far (before (Given s v) (pieces_of ss words None))
whole ss x xs words ready rows pending waiting so_far s v shows own is =
    let now = settled_rows (rules ss) pending rows in
    let rows_now = used (option_built s) (v ∷ []) now in
    let new = at rows_now None idle false in
    on_to ss rows pending waiting (two_dashes x xs) words so_far (held rows_now None) (next idle) new (before (Given s v) (pieces_of ss words None)) is own refl refl
    (one_more ss new words so_far (Given s v) (pieces_of ss words None)
    (ready rows_now None idle (so_far ++ Given s v ∷ []) tt refl (shows_more now so_far (Given s v) reading.AsWritten CommandLine shows)))

option_reads : (ss : List Setting) (x : ℕ) (xs : Text) (words : List Text) → Ready ss words → Waits ss words
    → (rows : List Row) (pending : Pending) (waiting : Waiting) (so_far : List Piece) → settle ss rows pending ≡ [] → Shows (settled_rows (rules ss) pending rows) so_far
    → (s : Setting) → setting_of ss (name_of s) ≡ Some s → (b : Bool) → has_value s ≡ b → (v : Option Text) → Meets ss x xs rows pending waiting (Some s) v
    → Goes ss (at rows pending waiting false) (two_dashes x xs ∷ words) so_far (met b s v (pieces_of ss words))
option_reads ss x xs words ready waits rows pending waiting so_far settles shows s known true e (Some v) m =
    let now = settled_rows (rules ss) pending rows in
    whole ss x xs words ready rows pending waiting so_far s v shows
    (m.fault ∙ (fault_as ss s true (Some v) (held rows pending) e ∙ (ap (λ (k : Kinds). or_else k (use_fault false (option_built s) (v ∷ []) now)) settles ∙ valued_use s v now e)))
    (m.step ∙ ap (flagged ss waiting (two_dashes x xs)) (met_as ss s true (Some v) (held rows pending) e))
option_reads ss x xs words ready waits rows pending waiting so_far settles shows s known true e None m =
    let now = settled_rows (rules ss) pending rows in
    on_to ss rows pending waiting (two_dashes x xs) words so_far (held now (Some (name_of s, []))) (next (option (name_of s))) (open_at now s) (pieces_of ss words (Some s))
    (m.step ∙ ap (flagged ss waiting (two_dashes x xs)) (met_as ss s true None (held rows pending) e))
    (m.fault ∙ (fault_as ss s true None (held rows pending) e ∙ settles)) refl refl (waits now s so_far known e shows)
option_reads ss x xs words ready waits rows pending waiting so_far settles shows s known false e (Some v) m =
    stuck ss (at rows pending waiting false) (two_dashes x xs) words (turn_fails ss rows pending waiting (two_dashes x xs)
    (λ f. let bad : kind.TooManyValues ∷ [] ≡ [] = sym (m.fault ∙ fault_as ss s false (Some v) (held rows pending) e) ∙ f in cc))
option_reads ss x xs words ready waits rows pending waiting so_far settles shows s known false e None m =
    let now = settled_rows (rules ss) pending rows in
    whole ss x xs words ready rows pending waiting so_far s [] shows
    (m.fault ∙ (fault_as ss s false None (held rows pending) e ∙ (ap (λ (k : Kinds). or_else k (use_fault false (option_built s) [] now)) settles ∙ switch_use s now e)))
    (m.step ∙ ap (flagged ss waiting (two_dashes x xs)) (met_as ss s false None (held rows pending) e))

named_reads : (ss : List Setting) (x : ℕ) (xs : Text) (words : List Text) → Ready ss words → Waits ss words
    → (rows : List Row) (pending : Pending) (waiting : Waiting) (so_far : List Piece) → settle ss rows pending ≡ [] → Shows (settled_rows (rules ss) pending rows) so_far
    → (o : Option Setting) (v : Option Text) → setting_of ss (name_at (x ∷ xs)) ≡ o → Meets ss x xs rows pending waiting o v
    → Goes ss (at rows pending waiting false) (two_dashes x xs ∷ words) so_far (met_option (option_map (λ s. (s, v)) o) (pieces_of ss words))
named_reads ss x xs words ready waits rows pending waiting so_far settles shows None v known m =
    stuck ss (at rows pending waiting false) (two_dashes x xs) words (turn_fails ss rows pending waiting (two_dashes x xs)
    (λ f. let bad : kind.UnknownArgument ∷ [] ≡ [] = sym m.fault ∙ f in cc))
named_reads ss x xs words ready waits rows pending waiting so_far settles shows (Some s) v known m =
    option_reads ss x xs words ready waits rows pending waiting so_far settles shows s (found_again ss (name_at (x ∷ xs)) s known) (has_value s) refl v m

-- ---- a word where nothing waits

ready_reads : (ss : List Setting) (word : Text) (words : List Text) → IsUtf8 word → Ready ss words → Waits ss words → Ready ss (word ∷ words)
unfolding pieces_of
ready_reads ss word words text ready waits rows pending waiting so_far free settles shows = by_shape (shape_of word)
  where
    Claim : Text → Type 0
    Claim w = Goes ss (at rows pending waiting false) (w ∷ words) so_far (pieces_of ss (w ∷ words) None)

    at_dashes : Claim (45 ∷ 45 ∷ [])
    at_dashes =
        on_to ss rows pending waiting (45 ∷ 45 ∷ []) words so_far (held rows pending) (trailing_step 1) (at rows pending waiting true) (Some (map (λ w. Operand w) words)) refl refl refl refl
        (trailing ss words rows pending waiting so_far settles shows)

    at_option : (x : ℕ) (xs : Text) → Claim (two_dashes x xs)
    at_option x xs =
        named_reads ss x xs words ready waits rows pending waiting so_far settles shows (setting_of ss (name_at (x ∷ xs))) (value_at (x ∷ xs)) refl
        (record { fault = long_fault_is ss x xs (held rows pending); step = long_step_is ss x xs waiting (held rows pending) })

    no_short : (first : ℕ) (rest : Text) → (first == 45) ≡ false → pieces_of ss ((45 ∷ first ∷ rest) ∷ words) None ≡ None
    no_short first rest other = rw other refl

    at_short : IsShort word → Claim word
    at_short short =
        subst (Goes ss (at rows pending waiting false) (word ∷ words) so_far)
        (sym (ap (λ (w : Text). pieces_of ss (w ∷ words) None) short.word_is ∙ no_short short.first short.rest short.other))
        (stuck ss (at rows pending waiting false) word words (turn_fails ss rows pending waiting word (word_short_fails ss rows pending word short text)))

    plain_piece : IsPlain word → pieces_of ss (word ∷ words) None ≡ before (Operand word) (pieces_of ss words None)
    plain_piece plain =
        ap (λ (b : Bool). cond b (Some (map (λ w. Operand w) words)) (cond (is_dashed word) (met_option (named ss word) (pieces_of ss words)) (before (Operand word) (pieces_of ss words None)))) plain.dashes
        ∙ ap (λ (b : Bool). cond b (met_option (named ss word) (pieces_of ss words)) (before (Operand word) (pieces_of ss words None))) plain.dashed

    at_plain : IsPlain word → Claim word
    at_plain plain =
        let now = settled_rows (rules ss) pending rows in
        let new = at now (Some (operand_name, word ∷ [])) positional false in
        subst (Goes ss (at rows pending waiting false) (word ∷ words) so_far) (sym (plain_piece plain))
        (on_to ss rows pending waiting word words so_far (held rows pending) value new (before (Operand word) (pieces_of ss words None))
        (plain_step_is ss waiting word (held rows pending) plain ∙ free_word (rules ss) waiting word (held rows pending) free)
        (plain_fault ss word (held rows pending) plain) (step_is ss rows pending ∙ settles) (operand_next ss rows pending waiting false word)
        (one_more ss new words so_far (Operand word) (pieces_of ss words None)
        (ready now (Some (operand_name, word ∷ [])) positional (so_far ++ Operand word ∷ []) tt (operand_settles ss now word) (operand_shows ss now word so_far shows))))

    by_shape : Shape word → Claim word
    by_shape (inl dashes) = subst Claim (sym dashes) at_dashes
    by_shape (inr (inl long)) = subst Claim (sym long.word_is) (at_option long.first long.rest)
    by_shape (inr (inr (inl short))) = at_short short
    by_shape (inr (inr (inr plain))) = at_plain plain

-- ---- a word where an option waits for its value

no_settle : (ss : List Setting) (o : Option Rule) (v : Option Text) (h : Held) → long_fault (rules ss) false o v h ≡ [] → settle_fault (rules ss) false h ≡ []
no_settle ss None v h e = absurd (cc)
no_settle ss (Some a) v h e = go (takes_values a) v e
  where
    c : List Rule
    c = rules ss

    now : List Row
    now = (settled c h).rows

    go : (b : Bool) (u : Option Text) → cond b (option_fault c false a u h) (cond (is_some u) (kind.TooManyValues ∷ []) (react_fault c false a [] h)) ≡ [] → settle_fault c false h ≡ []
    go true None f = f
    go true (Some t) f = first_none (settle_fault c false h) (use_fault false a (t ∷ []) now) f
    go false None f = first_none (settle_fault c false h) (use_fault false a [] now) f
    go false (Some t) f = absurd (cc)

-- behind `--` it waits in vain
waits_in_vain : (ss : List Setting) (rows : List Row) (s : Setting) (waiting : Waiting) (words : List Text) → setting_of ss (name_of s) ≡ Some s → has_value s ≡ true
    → faults ss (at rows (Some (name_of s, [])) waiting true) words ≡ [] → ⊥
unfolding walk_fault
waits_in_vain ss rows s waiting [] known has e = open_fails ss s rows known has e
waits_in_vain ss rows s waiting (word ∷ words) known has e =
    stuck ss (at rows (Some (name_of s, [])) waiting true) word words (λ f. open_fails ss s rows known has (sym (step_is ss rows (Some (name_of s, []))) ∙ f)) e

waits_reads : (ss : List Setting) (word : Text) (words : List Text) → IsUtf8 word → Ready ss words → Waits ss (word ∷ words)
unfolding pieces_of
waits_reads ss word words text ready rows s so_far known has shows = by_shape (shape_of word)
  where
    Claim : Text → Type 0
    Claim w = Goes ss (open_at rows s) (w ∷ words) so_far (pieces_of ss (w ∷ words) (Some s))

    at_dashes : Claim (45 ∷ 45 ∷ [])
    at_dashes =
        on_to ss rows (Some (name_of s, [])) (option (name_of s)) (45 ∷ 45 ∷ []) words so_far (held rows (Some (name_of s, []))) (trailing_step 1)
        (at rows (Some (name_of s, [])) (option (name_of s)) true) None refl refl refl refl (waits_in_vain ss rows s (option (name_of s)) words known has)

    at_option : (x : ℕ) (xs : Text) → Claim (two_dashes x xs)
    at_option x xs = stuck ss (open_at rows s) (two_dashes x xs) words (turn_fails ss rows (Some (name_of s, [])) (option (name_of s)) (two_dashes x xs)
        (λ e. open_fails ss s rows known has (no_settle ss (rule_at ss x xs) (value_at (x ∷ xs)) (held rows (Some (name_of s, []))) (sym (long_fault_is ss x xs (held rows (Some (name_of s, [])))) ∙ e))))

    at_short : IsShort word → Claim word
    at_short short =
        subst (Goes ss (open_at rows s) (word ∷ words) so_far) (sym (ap (λ (w : Text). pieces_of ss (w ∷ words) (Some s)) short.word_is))
        (stuck ss (open_at rows s) word words (turn_fails ss rows (Some (name_of s, [])) (option (name_of s)) word (word_short_fails ss rows (Some (name_of s, [])) word short text)))

    plain_piece : IsPlain word → pieces_of ss (word ∷ words) (Some s) ≡ before (Given s word) (pieces_of ss words None)
    plain_piece plain = ap (λ (b : Bool). cond b None (before (Given s word) (pieces_of ss words None))) plain.dashed

    no_room : nat_lt (cond (bytes_eq (name_of s) (name_of s)) 1 0) (most_values (option_built s)) ≡ false
    no_room = ap₂ (λ (b : Bool) (n : ℕ). nat_lt (cond b 1 0) n) (text_itself (name_of s)) (one_value s has)

    value_step : plain_word (rules ss) (option (name_of s)) word (held rows (Some (name_of s, []))) ≡ (held rows (Some (name_of s, word ∷ [])), next idle)
    value_step =
        ap (λ (o : Option Rule). ((option_word o (name_of s) word (held rows (Some (name_of s, [])))).0, next (option_word o (name_of s) word (held rows (Some (name_of s, [])))).1)) (option_by_id ss s known)
        ∙ ap (λ (b : Bool). (held rows (Some (name_of s, word ∷ [])), next (cond b (option (name_of s)) idle))) no_room

    at_plain : IsPlain word → Claim word
    at_plain plain =
        let new = at rows (Some (name_of s, word ∷ [])) idle false in
        subst (Goes ss (open_at rows s) (word ∷ words) so_far) (sym (plain_piece plain))
        (on_to ss rows (Some (name_of s, [])) (option (name_of s)) word words so_far (held rows (Some (name_of s, word ∷ []))) (next idle) new (before (Given s word) (pieces_of ss words None))
        (plain_step_is ss (option (name_of s)) word (held rows (Some (name_of s, []))) plain ∙ value_step)
        (plain_fault ss word (held rows (Some (name_of s, []))) plain) refl refl
        (one_more ss new words so_far (Given s word) (pieces_of ss words None)
        (ready rows (Some (name_of s, word ∷ [])) idle (so_far ++ Given s word ∷ []) tt (valued_settles ss s word rows known has) (valued_shows ss s word rows so_far known shows))))

    by_shape : Shape word → Claim word
    by_shape (inl dashes) = subst Claim (sym dashes) at_dashes
    by_shape (inr (inl long)) = subst Claim (sym long.word_is) (at_option long.first long.rest)
    by_shape (inr (inr (inl short))) = at_short short
    by_shape (inr (inr (inr plain))) = at_plain plain

-- ---- all words

pub record Reads (ss : List Setting) (words : List Text) : Type 0 where
  pub ready : Ready ss words
  pub waits : Waits ss words

all_reads : (ss : List Setting) (words : List Text) → AllByRecursion IsUtf8 words → Reads ss words
unfolding walk_fault pieces_of
all_reads ss [] texts = record {
  ready = λ rows pending waiting so_far free settles shows. (settles, nothing_more (settled_rows (rules ss) pending rows) so_far shows);
  waits = λ rows s so_far known has shows. open_fails ss s rows known has;
}
all_reads ss (word ∷ words) texts =
    let others = all_reads ss words texts.1 in
    record { ready = ready_reads ss word words texts.0 others.ready others.waits; waits = waits_reads ss word words texts.0 others.ready }

no_more : (k : Kinds) → or_else k [] ≡ k
no_more [] = refl
no_more (x ∷ xs) = refl

-- the walk begins with nothing
abbrev start : Walk
start = at [] None idle false

faults_are : (ss : List Setting) (words : List Text) → fault_of (app_of_settings ss) words ≡ faults ss start words
faults_are ss words =
    let left = settle_fault (rules ss) false (end_of ss start words).held in
    let rows = finished (rules ss) (end_of ss start words).held in
    ap (λ (a : App). built_fault a nothing_held words) (built_is ss)
    ∙ (leaf_fault (app_built ss) nothing_held words refl
    ∙ ap (λ (k : Kinds). or_else (walk_fault (shape ss) [] start words) k)
    (ap (λ (k : Kinds). or_else left k)
    (ap (λ (k : Kinds). or_else k (check_fault (shape ss) rows false)) (no_default_faults ss (final ss start words)) ∙ nothing_missing ss rows)
    ∙ no_more left))

rows_are : (ss : List Setting) (words : List Text) → matches_of (app_of_settings ss) words ≡ final ss start words
rows_are ss words = ap (λ (a : App). rows_after a.top.rules (names_of a) words) (built_is ss) ∙ no_defaults ss (final ss start words)

-- the walk agrees with the pieces
pub agree : (ss : List Setting) (words : List Text) → AllByRecursion IsUtf8 words
    → Agrees (fault_of (app_of_settings ss) words) (matches_of (app_of_settings ss) words) [] (pieces_of ss words None)
agree ss words texts =
    subst (λ (k : Kinds). Agrees k (matches_of (app_of_settings ss) words) [] (pieces_of ss words None)) (sym (faults_are ss words))
    (subst (λ (rs : List Row). Agrees (faults ss start words) rs [] (pieces_of ss words None)) (sym (rows_are ss words))
    ((all_reads ss words texts).ready [] None idle [] tt refl (λ name. refl)))

pub all_texts : {Z : Type 0} (words : List (String Z)) → AllByRecursion IsUtf8 (map string_bytes words)
all_texts [] = tt
all_texts (word ∷ words) = (IsUtf8-string_bytes word, all_texts words)

-- what a parse finds where it succeeds, and that no pieces are read where it fails
pub found : (kinds : Kinds) (rows there : List Row) (read : Option (List Piece)) → Agrees kinds rows [] read → kinds ≡ [] → there ≡ rows → ShowsRead there read
found kinds rows there None agrees none same = agrees none
found kinds rows there (Some ps) agrees none same = subst (λ (rs : List Row). Shows rs ps) (sym same) agrees.1

pub refused : (kinds : Kinds) (rows : List Row) (e : Error) (read : Option (List Piece)) → Agrees kinds rows [] read → HasKind kinds e → (kind_of e ≡ kind.OutOfMemory → ⊥) → read ≡ None
refused kinds rows e None agrees has other = refl
refused kinds rows e (Some ps) agrees has other = absurd (elim (subst (λ (k : Kinds). HasKind k e) agrees.0 has) [
  | inl memory ↦ other memory
  | inr among ↦ among
])
