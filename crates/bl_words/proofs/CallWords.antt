-- All words of a call: which are refused, and which request the matches of the others are.
use Rattle.std.proofs.Common.{◌≡◌, ◌∙◌, ◌⊎◌, ap, sym, refl, subst, ℕ, Bool, ◌||◌, ◌&&◌, true, false, cond, List, [], ◌∷◌, ◌++◌, append_assoc, append-nil, length, true≢false, Option, Some, None, codes, ⊎_elim, is_some}
use Rattle.std.proofs.lemmas.Str.{IsUtf8-string_bytes}
use Rattle.std.specs.Prelude.{⊤, String, string_bytes, map, option_and_then, option_map, fold, find}
use Rattle.std.specs.Str.{IsUtf8, bytes_eq}
use Rattle.std.proofs.lemmas.Bool.{cases_Bool, cond-false, cond-true, false_from_ne_true}
use Rattle.std.proofs.lemmas.Slice.Eq.{bytes_eq-Decides}
use Rattle.clap.specs.Lexer.{long_of, short_of}
use Rattle.clap.specs.Walk.{Rule, finished, has_row, is_empty, Names, Row, Text, Walk, answers_to, idle, nothing_held, rows_after, settled, walk, walk_from, walked, with_default}
use Rattle.clap.specs.Simple.{Shape, is_simple, filled, with_index, built, entered, label_of, names_of, subcommand_of}
use Rattle.clap.specs.Kinds.{Kinds, or_else, IsAmong as IsAmongKinds}
use Rattle.clap.specs.Faults.{is_simple_and_free, bundle_step_fault, check_fault, default_fault, given_default_fault, settle_fault, defaults_fault, entered_fault, fault_of, flags_fault, level_fault, turn_fault, walk_fault}
use Rattle.clap.specs.declared.error.kind.ErrorKind.TheVariants.{OutOfMemory, UnknownArgument, InvalidSubcommand}
use Rattle.clap.specs.declared.error.kind.ErrorKind.{ErrorKind}
use Rattle.bl_words.specs.Requests.{Steps, Counts, Command, Parts, Request, arguments_alone, asked_among, command_of, commands, kept, parts_of, request_of, value_of, with_counts}
use Rattle.bl_words.specs.CommandLine.{blade_app, argument_rule, option_rule}
use Rattle.bl_words.proofs.WordKinds.{Kind, kind, plain, end, asking, giving, long, short}
use Rattle.bl_words.proofs.ParsedContents.{parts_of_rows}
use Rattle.bl_words.proofs.ClapWalks.{first_letter, AllText, Answers, IsFaulty, Takes, all_faults, built_shape, ends_at, first_none, past, rules, taken_apart}

abbrev top : Shape
top = (built blade_app).top

abbrev names : Names
names = names_of (built blade_app)

-- ---- a command's own level

default_none : (rows : List Row) (a : Rule) → is_empty a.defaults ≡ true → default_fault rows a ≡ []
default_none rows a e = go (has_row a.id rows) (is_empty a.defaults) e
  where
    go : (b c : Bool) → c ≡ true → cond (b || c) [] (given_default_fault a a.defaults) ≡ []
    go true c e = refl
    go false true e = refl
    go false false e = cc

abbrev argument_built : Rule
argument_built = with_index 1 (filled argument_rule)

abbrev steps_built : Rule
steps_built = with_index 2 (filled (option_rule (codes "steps")))

abbrev counts_built : Rule
counts_built = with_index 3 (filled (option_rule (codes "counts")))

no_defaults : (rows : List Row) → defaults_fault rows rules ≡ []
unfolding defaults_fault
no_defaults rows = past _ _ (default_none rows argument_built refl) ∙ past _ _ (default_none (with_default rows argument_built) steps_built refl)
    ∙ past _ _ (default_none (with_default (with_default rows argument_built) steps_built) counts_built refl)

same_rows : (b : Bool) (rows : List Row) → cond b rows rows ≡ rows
same_rows true rows = refl
same_rows false rows = refl

argument_stays : (rows : List Row) → with_default rows argument_built ≡ rows
argument_stays rows = same_rows _ rows

steps_stay : (rows : List Row) → with_default rows steps_built ≡ rows
steps_stay rows = same_rows _ rows

counts_stay : (rows : List Row) → with_default rows counts_built ≡ rows
counts_stay rows = same_rows _ rows

rows_stay : (rows : List Row) → fold with_default rows rules ≡ rows
rows_stay rows =
    ap (λ r. with_default (with_default r steps_built) counts_built) (argument_stays rows) ∙ (ap (λ r. with_default r counts_built) (steps_stay rows) ∙ counts_stay rows)

abbrev sub_fault : Text → List Text → Kinds
sub_fault name words = level_fault (built_shape name) [] nothing_held words false []

abbrev start : Walk
start = walk_from nothing_held

or_nothing : (a : Kinds) → or_else a [] ≡ a
or_nothing [] = refl
or_nothing (k ∷ ks) = refl

sub_fault_is : (name : Text) (words : List Text) → sub_fault name words ≡ all_faults name start words
sub_fault_is name words =
    let end = ends_at name start words in
    ap (or_else (walk_fault (built_shape name) [] start words))
    (ap (or_else _) (past _ _ (no_defaults (settled rules end).rows)) ∙ or_nothing _)

-- ---- the command's word

abbrev stopped_at : Text → List Text → Walk
stopped_at name words = record { held = nothing_held; waiting = idle; position = 1; is_trailing = false; stopped = Some (name, words) }

stays : (name : Text) (before words : List Text) → fold (walked top.rules names) (stopped_at name before) words ≡ stopped_at name (before ++ words)
unfolding walked
stays name before [] = ap (stopped_at name) (sym (append-nil before))
stays name before (word ∷ words) = stays name (before ++ word ∷ []) words ∙ ap (stopped_at name) (append_assoc before (word ∷ []) words)

stays_quiet : (name : Text) (before words : List Text) → walk_fault top names (stopped_at name before) words ≡ []
unfolding walked walk_fault
stays_quiet name before [] = refl
stays_quiet name before (word ∷ words) = stays_quiet name (before ++ word ∷ []) words

-- the word is a command's name
pub record IsCommand (name : Text) : Type 0 where
  pub label : find (answers_to name) names ≡ Some (name, [])
  pub sub : find (λ s. answers_to name (label_of s)) (built blade_app).subs ≡ Some (built_shape name)

and_false : (b : Bool) → (b && false) ≡ false
and_false true = refl
and_false false = refl

-- what comes behind the walk over the top command's words
abbrev behind : Walk → Kinds
behind w = or_else (entered_fault (built blade_app) w.stopped) (or_else (settle_fault top.rules false w.held)
    (or_else (defaults_fault (settled top.rules w.held).rows top.rules) (check_fault top (finished top.rules w.held) (is_some (entered (built blade_app) w.stopped)))))

module _ (name : Text) (is : IsCommand name) where
  enters : walked top.rules names start name ≡ stopped_at name []
  unfolding walked
  enters = rw (is.label) refl

  quiet : turn_fault top names start name ≡ []
  quiet = rw (is.label, and_false (bytes_eq name (codes "help"))) refl

  walk_ends : (words : List Text) → walk top.rules names nothing_held (name ∷ words) ≡ stopped_at name words
  walk_ends words = ap (λ w. fold (walked top.rules names) w words) enters ∙ stays name [] words

  walk_quiet : (words : List Text) → walk_fault top names start (name ∷ words) ≡ []
  unfolding walk_fault
  walk_quiet words = past _ _ quiet ∙ ap (λ w. walk_fault top names w words) enters ∙ stays_quiet name [] words

  entered_is : (words : List Text) → entered (built blade_app) (Some (name, words)) ≡ Some (name, rows_after rules [] words)
  entered_is words = ap (option_map (λ (s : Shape). (s.name, rows_after s.rules [] words))) is.sub

  fault_below : (words : List Text) → entered_fault (built blade_app) (Some (name, words)) ≡ sub_fault name words
  fault_below words = rw (is.sub) refl

  pub fault_is : (program : Text) (words : List Text) → fault_of blade_app (program ∷ name ∷ words) ≡ sub_fault name words
  unfolding defaults_fault
  fault_is program words =
      past _ _ (walk_quiet words) ∙ ap behind (walk_ends words)
      ∙ ap (λ e. or_else (entered_fault (built blade_app) (Some (name, words))) (or_else [] (or_else [] (check_fault top [] (is_some e))))) (entered_is words)
      ∙ or_nothing _ ∙ fault_below words

  pub subcommand_is : (program : Text) (words : List Text) → subcommand_of blade_app (program ∷ name ∷ words) ≡ Some (name, rows_after rules [] words)
  subcommand_is program words = ap (λ (w : Walk). entered (built blade_app) w.stopped) (walk_ends words) ∙ entered_is words

-- ---- words that name no command

missing : (fault below : Kinds) → or_else fault (or_else below (check_fault top [] false)) ≡ [] → ⊥
missing [] [] e = cc
missing [] (k ∷ ks) e = cc
missing (k ∷ ks) below e = cc

-- the first word is refused
first_refused : (program word : Text) (words : List Text) → IsFaulty (turn_fault top names start word) → IsFaulty (fault_of blade_app (program ∷ word ∷ words))
unfolding walk_fault
first_refused program word words h e = h (first_none _ _ (first_none _ _ e))

unknown_bundle : (x : ℕ) (xs : List ℕ) → IsUtf8 (45 ∷ x ∷ xs) → flags_fault [] false (length (x ∷ xs)) (x ∷ xs) 0 nothing_held ≡ UnknownArgument ∷ []
unfolding flags_fault
unknown_bundle x xs text = ap (λ o. bundle_step_fault [] false o (x ∷ xs) 0 nothing_held (flags_fault [] false (length xs))) (first_letter x xs text).1

unknown_letters : (word flags : Text) → long_of word ≡ None → short_of word ≡ Some flags → bytes_eq word (codes "--") ≡ false
    → flags_fault [] false (length flags) flags 0 nothing_held ≡ UnknownArgument ∷ [] → find (answers_to word) names ≡ None → IsFaulty (turn_fault top names start word)
unknown_letters word flags no_long flags_are no_end bundle other e =
    let unknown : turn_fault top names start word ≡ UnknownArgument ∷ [] = rw (other, no_end, no_long, flags_are, bundle) refl in
    cc

-- `--` ends the options before a command is met
abbrev behind_end : Walk
behind_end = record { held = nothing_held; waiting = idle; position = 1; is_trailing = true; stopped = None }

ends : (words : List Text) → fold (walked [] names) behind_end words ≡ behind_end
unfolding walked
ends [] = refl
ends (word ∷ words) = ends words

end_refused : (program : Text) (words : List Text) → IsFaulty (fault_of blade_app (program ∷ codes "--" ∷ words))
unfolding defaults_fault walked
end_refused program words e =
    missing (walk_fault top names start (codes "--" ∷ words)) [] (ap (λ (w : Walk). or_else (walk_fault top names start (codes "--" ∷ words)) (behind_at w)) (sym (ends words)) ∙ e)
  where
    behind_at : Walk → Kinds
    behind_at w = behind w

other_refused : (program word : Text) → Kind word → (words : List Text) → IsUtf8 word → find (answers_to word) names ≡ None → IsFaulty (fault_of blade_app (program ∷ word ∷ words))
other_refused program _ (plain word p) words text other =
    first_refused program word words (λ e.
    let stray : turn_fault top names start word ≡ UnknownArgument ∷ InvalidSubcommand ∷ [] = rw (other, p.end, p.long, p.short) refl in
    cc)
other_refused program _ end words text other = end_refused program words
other_refused program _ (asking Steps) words text other = first_refused program (codes "--steps") words (λ e. cc)
other_refused program _ (asking Counts) words text other = first_refused program (codes "--counts") words (λ e. cc)
other_refused program _ (giving Steps v) words text other = first_refused program (codes "--steps=" ++ v) words (λ e. cc)
other_refused program _ (giving Counts v) words text other = first_refused program (codes "--counts=" ++ v) words (λ e. cc)
other_refused program _ (long word name v is unlike strange) words text other =
    first_refused program word words (λ e.
    let unknown : turn_fault top names start word ≡ UnknownArgument ∷ [] = rw (other, strange.end, is) refl in
    cc)
other_refused program _ (short x xs unlike strange) words text other =
    first_refused program (45 ∷ x ∷ xs) words
    (unknown_letters (45 ∷ x ∷ xs) (x ∷ xs) (rw unlike refl) (rw unlike refl) (rw unlike refl) (unknown_bundle x xs text) other)

-- ---- requests

-- what the matches of a call ask for
abbrev pub chosen : Option (Text × List Row) → Option Request
chosen = option_and_then (λ p. command_of p.0 (parts_of_rows p.1))

abbrev asked : Text → Option Parts → Option Request
asked name = option_and_then (command_of name)

-- the word is none of these names
abbrev IsUnlike : Text → List Text → Type 0
IsUnlike word [] = ⊤
IsUnlike word (name ∷ more) = (bytes_eq word name ≡ false) × IsUnlike word more

-- the word is the first command's name that it is like, or like none
data IsAmong (word : Text) (all : List Text) : Type 0 where
  is_one : find (answers_to word) (map (λ name. (name, [])) all) ≡ Some (word, []) → find (λ s. answers_to word (label_of s)) (map built_shape all) ≡ Some (built_shape word) → IsAmong word all
  is_no_one : find (answers_to word) (map (λ name. (name, [])) all) ≡ None → IsUnlike word all → IsAmong word all

unlike : (a b : Text) → bytes_eq a b ≡ false → (bytes_eq b a || false) ≡ false
unlike a b e =
    let no : bytes_eq b a ≡ false = false_from_ne_true (bytes_eq b a) (λ f. true≢false (sym ((bytes_eq-Decides a b).1 (sym ((bytes_eq-Decides b a).0 f))) ∙ e)) in
    ap (λ t. t || false) no

alike : (a : Text) → (bytes_eq a a || false) ≡ true
alike a = ap (λ t. t || false) ((bytes_eq-Decides a a).1 refl)

module _ (word : Text) where
  first_is : (all : List Text) → IsAmong word (word ∷ all)
  first_is all = is_one (cond-true _ _ _ (alike word)) (cond-true _ _ _ (alike word))

  not_first : (name : Text) (all : List Text) → bytes_eq word name ≡ false → IsAmong word all → IsAmong word (name ∷ all)
  not_first name all e (is_one label sub) = is_one (cond-false _ _ _ (unlike word name e) ∙ label) (cond-false _ _ _ (unlike word name e) ∙ sub)
  not_first name all e (is_no_one label unlikes) = is_no_one (cond-false _ _ _ (unlike word name e) ∙ label) (e, unlikes)

  among : (all : List Text) → IsAmong word all
  among [] = is_no_one refl tt
  among (name ∷ all) =
      ⊎_elim (λ e. subst (λ n. IsAmong word (n ∷ all)) ((bytes_eq-Decides word name).0 e) (first_is all)) (λ e. not_first name all e (among all)) (cases_Bool (bytes_eq word name))

-- the word names a command of the call, or no command
data Which (word : Text) : Type 0 where
  command : IsCommand word → Which word
  other : find (answers_to word) names ≡ None → ((arguments : List Text) (steps : Option Text) → asked_among commands word arguments steps ≡ None) → Which word

abbrev names_in : List Command → List Text
names_in = map (λ one. one.name)

-- a word that is none of these commands' names asks for nothing among them
asks_nothing : (word : Text) (all : List Command) → IsUnlike word (names_in all) → (arguments : List Text) (steps : Option Text) → asked_among all word arguments steps ≡ None
asks_nothing word [] u arguments steps = refl
asks_nothing word (one ∷ all) u arguments steps = cond-false _ _ _ u.0 ∙ asks_nothing word all u.1 arguments steps

by_name : (word : Text) → IsAmong word (names_in commands) → Which word
by_name word (is_one label sub) = command (record { label = label; sub = sub })
by_name word (is_no_one label unlikes) = other label (asks_nothing word commands unlikes)

which : (word : Text) → Which word
which word = by_name word (among word (names_in commands))

-- what `clap` asks of the command that its clauses may be used
pub blade_is_free : is_simple_and_free blade_app ≡ true
blade_is_free = refl

pub blade_is_simple : is_simple blade_app ≡ true
blade_is_simple = refl

-- the rows of a level are those that the walk leaves
rows_are : (name : Text) (words : List Text) → rows_after rules [] words ≡ (settled rules (ends_at name start words)).rows
rows_are name words = rows_stay _

module _ (name : Text) (words : List Text) where
  abbrev matched : Option Request
  matched = chosen (Some (name, rows_after rules [] words))

  matched_is : (parts : Parts) → Takes name start words parts → matched ≡ command_of name parts
  matched_is parts t = ap (λ rows. command_of name (parts_of_rows rows)) (rows_are name words) ∙ ap (command_of name) t.parts_are

  taken_is : (found : Option Parts) → Answers name start words (arguments_alone []) found → all_faults name start words ≡ [] → asked name found ≡ matched
  taken_is (Some parts) t none = sym (matched_is parts t)
  taken_is None h none = absurd (h none)

  refused_is : (found : Option Parts) → Answers name start words (arguments_alone []) found → IsFaulty (all_faults name start words) → asked name found ≡ None
  refused_is None h fault = refl
  refused_is (Some parts) t fault = absurd (fault t.none)

-- words of no command ask for nothing
asked_none : (name : Text) (found : Option Parts) → ((arguments : List Text) (steps : Option Text) → asked_among commands name arguments steps ≡ None) → asked name found ≡ None
asked_none name None none = refl
asked_none name (Some parts) none = go (value_of parts.steps_values) (value_of parts.counts_values)
  where
    go : (value second : Option (Option Text))
        → option_and_then (λ steps. option_and_then (λ counts. option_and_then kept (option_and_then (with_counts counts) (asked_among commands name parts.arguments steps))) second) value
        ≡ None
    go None second = refl
    go (Some steps) None = refl
    go (Some steps) (Some counts) = ap (λ found. option_and_then kept (option_and_then (with_counts counts) found)) (none parts.arguments steps)

when_named_taken : (program name : Text) (words : List Text) → AllText words → IsCommand name → fault_of blade_app (program ∷ name ∷ words) ≡ []
    → asked name (parts_of words) ≡ chosen (subcommand_of blade_app (program ∷ name ∷ words))
when_named_taken program name words text is none =
    taken_is name words (parts_of words) (taken_apart name words text) (sym (fault_is name is program words ∙ sub_fault_is name words) ∙ none)
    ∙ ap chosen (sym (subcommand_is name is program words))

-- where `clap` takes the words, its matches are the request
pub when_taken : (words : List Text) → AllText words → fault_of blade_app words ≡ [] → request_of words ≡ chosen (subcommand_of blade_app words)
unfolding walk_fault defaults_fault
when_taken [] text none = absurd (missing [] [] none)
when_taken (program ∷ []) text none = absurd (missing [] [] none)
when_taken (program ∷ word ∷ words) text none = go (which word)
  where
    go : Which word → request_of (program ∷ word ∷ words) ≡ chosen (subcommand_of blade_app (program ∷ word ∷ words))
    go (command is) = when_named_taken program word words text.1.1 is none
    go (other no_label no_command) = absurd (other_refused program word (kind word) words text.1.0 no_label none)

-- where it refuses them, there is no request
pub when_refused : (words : List Text) → AllText words → IsFaulty (fault_of blade_app words) → request_of words ≡ None
when_refused [] text fault = refl
when_refused (program ∷ []) text fault = refl
when_refused (program ∷ word ∷ words) text fault = go (which word)
  where
    go : Which word → request_of (program ∷ word ∷ words) ≡ None
    go (command is) =
        refused_is word words (parts_of words) (taken_apart word words text.1.1)
        (λ none. fault (fault_is word is program words ∙ sub_fault_is word words ∙ none))
    go (other no_label no_command) = asked_none word (parts_of words) no_command

pub all_text : {Z : Type 0} (words : List (String Z)) → AllText (map string_bytes words)
all_text [] = tt
all_text (word ∷ words) = (IsUtf8-string_bytes word, all_text words)

-- an error that isn't want of memory has a kind of the list
pub not_among : (kinds : Kinds) (k : ErrorKind) → kinds ≡ [] → (k ≡ OutOfMemory → ⊥) → (k ≡ OutOfMemory) ⊎ IsAmongKinds k kinds → ⊥
not_among kinds k none no_memory h = ⊎_elim no_memory (λ among. subst (IsAmongKinds k) none among) h
