-- `clap`'s walk over the words behind a command, and how the rules take them apart.
use Rattle.std.proofs.Common.{◌≡◌, ◌∙◌, ap, sym, refl, subst, ℕ, ◌==◌, Bool, true, false, List, [], ◌∷◌, ◌++◌, append_assoc, append-nil, length, Option, Some, None, codes, arith}
use Rattle.std.specs.Prelude.{⊤, option_map, fold, slice_get}
use Rattle.std.specs.Str.{IsUtf8, bytes_eq, chars}
use Rattle.std.proofs.lemmas.Bool.{cond-false, cond-true}
use Rattle.std.proofs.lemmas.Str.{IsUtf8-drop, IsCharBoundary-after_ascii, encodes-chars}
use Rattle.std.proofs.Math.Utf8.{encodes}
use Rattle.clap.specs.Lexer.{long_of, short_of}
use Rattle.clap.specs.Walk.{subcommand_met, walk_from, nothing_held, Held, Row, Rule, Text, Waiting, Walk, idle, positional, option, settled, settled_rows, walked}
use Rattle.clap.specs.Simple.{Shape, built_leaf, filled_from, inherited, with_leaf_noted}
use Rattle.clap.specs.Kinds.{Kinds, or_else}
use Rattle.clap.specs.Faults.{bundle_step_fault, flags_fault, settle_fault, turn_fault, walk_fault}
use Rattle.clap.specs.declared.error.kind.ErrorKind.TheVariants.{UnknownArgument}
use Rattle.bl_words.specs.Requests.{OptionName, Steps, Counts, Parts, Reading, arguments_alone, is_option, parts_by, parts_of, parts_behind, reading_of, with_argument, with_value, word_of}
use Rattle.bl_words.specs.CommandLine.{argument_rule, bare_app, command_shape, option_rule}
use Rattle.bl_words.proofs.ParsedContents.{content-same, content-other, parts_equal, parts_of_rows}
use Rattle.bl_words.proofs.WordKinds.{IsPlain, IsStrange, IsUnknown, Kind, kind, plain, end, asking, giving, long, short}
use Rattle.bl_words.proofs.WordsLemmas.{asks_option, asks_read, gives_option, gives_read}

-- a command as it is built
abbrev pub rules : List Rule
rules = filled_from 1 (argument_rule ∷ option_rule (codes "steps") ∷ option_rule (codes "counts") ∷ [])

abbrev pub built_shape : Text → Shape
built_shape name = built_leaf (inherited (with_leaf_noted bare_app.top) (command_shape name))

-- each word is text
abbrev pub AllText : List Text → Type 0
AllText [] = ⊤
AllText (word ∷ words) = IsUtf8 word × AllText words

-- ---- where the walk stands

-- what was read last, and isn't in the rows yet
data Last : Type 0 where
  nothing : Last
  an_argument : Text → Last
  a_value : OptionName → Text → Last

abbrev pending_of : Last → Option (Text × List Text)
pending_of nothing = None
pending_of (an_argument word) = Some (codes "argument", word ∷ [])
pending_of (a_value name word) = Some (word_of name, word ∷ [])

abbrev waits : Bool → Waiting
waits true = positional
waits false = idle

abbrev at_rows : List Row → Option (Text × List Text) → Waiting → Bool → Walk
at_rows rows pending waiting trailing = record {
  held = record { rows = rows; pending = pending; skip = 0 };
  waiting = waiting;
  position = 1;
  is_trailing = trailing;
  stopped = None;
}

-- before an argument or an option; behind `--`; behind an option; behind that and `--`
abbrev free : List Row → Last → Bool → Walk
free rows last b = at_rows rows (pending_of last) (waits b) false

abbrev behind_end : List Row → Last → Bool → Walk
behind_end rows last b = at_rows rows (pending_of last) (waits b) true

abbrev awaiting : OptionName → List Row → Walk
awaiting name rows = at_rows rows (Some (word_of name, [])) (option (word_of name)) false

abbrev spoiled : OptionName → List Row → Walk
spoiled name rows = at_rows rows (Some (word_of name, [])) (option (word_of name)) true

abbrev settle : List Row → Last → List Row
settle rows last = settled_rows rules (pending_of last) rows

-- ---- parts

-- parts one behind the other
abbrev pub joined : Parts → Parts → Parts
joined a b = record { arguments = a.arguments ++ b.arguments; steps_values = a.steps_values ++ b.steps_values; counts_values = a.counts_values ++ b.counts_values }

joined_nothing : (parts : Parts) → joined parts (arguments_alone []) ≡ parts
joined_nothing parts = parts_equal (append-nil _) (append-nil _) (append-nil _)

-- one more at the end
abbrev and_argument : Parts → Text → Parts
and_argument parts word = record parts { arguments = parts.arguments ++ word ∷ [] }

abbrev and_value : OptionName → Parts → Text → Parts
and_value Steps parts value = record parts { steps_values = parts.steps_values ++ value ∷ [] }
and_value Counts parts value = record parts { counts_values = parts.counts_values ++ value ∷ [] }

argument_moves : (before : Parts) (word : Text) (parts : Parts) → joined (and_argument before word) parts ≡ joined before (with_argument word parts)
argument_moves before word parts = parts_equal (append_assoc before.arguments (word ∷ []) parts.arguments) refl refl

value_moves : (name : OptionName) (before : Parts) (v : Text) (parts : Parts) → joined (and_value name before v) parts ≡ joined before (with_value name v parts)
value_moves Steps before v parts = parts_equal refl (append_assoc before.steps_values (v ∷ []) parts.steps_values) refl
value_moves Counts before v parts = parts_equal refl refl (append_assoc before.counts_values (v ∷ []) parts.counts_values)

-- what the rows hold once an argument or a value is in them
argument_row : (rows : List Row) (word : Text) → parts_of_rows (settle rows (an_argument word)) ≡ and_argument (parts_of_rows rows) word
argument_row rows word = parts_equal (content-same (codes "argument") _ _ (word ∷ []) rows) (content-other (codes "argument") (codes "steps") _ _ (word ∷ []) rows refl) (content-other (codes "argument") (codes "counts") _ _ (word ∷ []) rows refl)

value_row : (name : OptionName) (rows : List Row) (v : Text) → parts_of_rows (settle rows (a_value name v)) ≡ and_value name (parts_of_rows rows) v
value_row Steps rows v = parts_equal (content-other (codes "steps") (codes "argument") _ _ (v ∷ []) rows refl) (content-same (codes "steps") _ _ (v ∷ []) rows) (content-other (codes "steps") (codes "counts") _ _ (v ∷ []) rows refl)
value_row Counts rows v = parts_equal (content-other (codes "counts") (codes "argument") _ _ (v ∷ []) rows refl) (content-other (codes "counts") (codes "steps") _ _ (v ∷ []) rows refl) (content-same (codes "counts") _ _ (v ∷ []) rows)

-- ---- one word

free_plain : (rows : List Row) (last : Last) (b : Bool) (word : Text) → IsPlain word → walked rules [] (free rows last b) word ≡ free (settle rows last) (an_argument word) true
unfolding walked
free_plain rows nothing true word p = rw (p.end, p.long, p.short) refl
free_plain rows nothing false word p = rw (p.end, p.long, p.short) refl
free_plain rows (an_argument w) true word p = rw (p.end, p.long, p.short) refl
free_plain rows (an_argument w) false word p = rw (p.end, p.long, p.short) refl
free_plain rows (a_value Steps w) true word p = rw (p.end, p.long, p.short) refl
free_plain rows (a_value Counts w) true word p = rw (p.end, p.long, p.short) refl
free_plain rows (a_value Steps w) false word p = rw (p.end, p.long, p.short) refl
free_plain rows (a_value Counts w) false word p = rw (p.end, p.long, p.short) refl

end_word : (rows : List Row) (last : Last) (b : Bool) (word : Text) → walked rules [] (behind_end rows last b) word ≡ behind_end (settle rows last) (an_argument word) true
unfolding walked
end_word rows nothing b word = refl
end_word rows (an_argument w) b word = refl
end_word rows (a_value Steps w) b word = refl
end_word rows (a_value Counts w) b word = refl

free_end : (rows : List Row) (last : Last) (b : Bool) → walked rules [] (free rows last b) (codes "--") ≡ behind_end rows last b
unfolding walked
free_end rows last true = refl
free_end rows last false = refl

free_asks : (name : OptionName) (rows : List Row) (last : Last) (b : Bool) → walked rules [] (free rows last b) (codes "--" ++ word_of name) ≡ awaiting name (settle rows last)
unfolding walked
free_asks Steps rows last true = refl
free_asks Steps rows last false = refl
free_asks Counts rows last true = refl
free_asks Counts rows last false = refl

free_gives : (name : OptionName) (rows : List Row) (last : Last) (b : Bool) (v : Text) → walked rules [] (free rows last b) (codes "--" ++ word_of name ++ (codes "=" ++ v)) ≡ free (settle (settle rows last) (a_value name v)) nothing false
unfolding walked
free_gives Steps rows last true v = refl
free_gives Steps rows last false v = refl
free_gives Counts rows last true v = refl
free_gives Counts rows last false v = refl

awaiting_plain : (name : OptionName) (rows : List Row) (word : Text) → IsPlain word → walked rules [] (awaiting name rows) word ≡ free rows (a_value name word) false
unfolding walked
awaiting_plain Steps rows word p = rw (p.end, p.long, p.short) refl
awaiting_plain Counts rows word p = rw (p.end, p.long, p.short) refl

awaiting_end : (name : OptionName) (rows : List Row) → walked rules [] (awaiting name rows) (codes "--") ≡ spoiled name rows
unfolding walked
awaiting_end Steps rows = refl
awaiting_end Counts rows = refl

-- ---- the faults of one word

abbrev pub IsFaulty : Kinds → Type 0
IsFaulty kinds = kinds ≡ [] → ⊥

pub first_none : (a b : Kinds) → or_else a b ≡ [] → a ≡ []
first_none [] b e = refl
first_none (k ∷ ks) b e = cc

pub past : (a b : Kinds) → a ≡ [] → or_else a b ≡ b
past a b none = ap (λ x. or_else x b) none

-- a bundle has a first letter
first_char : (x : ℕ) (xs : List ℕ) (letters : List ℕ) → encodes letters ≡ x ∷ xs → (c : ℕ) × (slice_get letters 0 ≡ Some c)
first_char x xs [] e = cc
first_char x xs (c ∷ letters) e = (c, refl)

pub first_letter : (x : ℕ) (xs : List ℕ) → IsUtf8 (45 ∷ x ∷ xs) → (c : ℕ) × (slice_get (chars (x ∷ xs)) 0 ≡ Some c)
first_letter x xs text =
    let word : List ℕ = 45 ∷ x ∷ xs in
    let rest : IsUtf8 (x ∷ xs) = IsUtf8-drop word 1 text (IsCharBoundary-after_ascii word 0 text (omega arith) (omega arith)) in
    first_char x xs (chars (x ∷ xs)) (encodes-chars (x ∷ xs) rest)

module _ (name : Text) where
  abbrev faults : Walk → Text → Kinds
  faults w word = turn_fault (built_shape name) [] w word

  plain_fault : (rows : List Row) (last : Last) (b : Bool) (word : Text) → IsPlain word → faults (free rows last b) word ≡ []
  plain_fault rows nothing true word p = rw (p.end, p.long, p.short) refl
  plain_fault rows nothing false word p = rw (p.end, p.long, p.short) refl
  plain_fault rows (an_argument w) true word p = rw (p.end, p.long, p.short) refl
  plain_fault rows (an_argument w) false word p = rw (p.end, p.long, p.short) refl
  plain_fault rows (a_value Steps w) true word p = rw (p.end, p.long, p.short) refl
  plain_fault rows (a_value Counts w) true word p = rw (p.end, p.long, p.short) refl
  plain_fault rows (a_value Steps w) false word p = rw (p.end, p.long, p.short) refl
  plain_fault rows (a_value Counts w) false word p = rw (p.end, p.long, p.short) refl

  end_word_fault : (rows : List Row) (last : Last) (b : Bool) (word : Text) → faults (behind_end rows last b) word ≡ []
  end_word_fault rows nothing b word = refl
  end_word_fault rows (an_argument w) b word = refl
  end_word_fault rows (a_value Steps w) b word = refl
  end_word_fault rows (a_value Counts w) b word = refl

  end_fault : (rows : List Row) (last : Last) (b : Bool) → faults (free rows last b) (codes "--") ≡ []
  end_fault rows last true = refl
  end_fault rows last false = refl

  settles : (rows : List Row) (last : Last) → settle_fault rules false (record { rows = rows; pending = pending_of last; skip = 0 }) ≡ []
  settles rows nothing = refl
  settles rows (an_argument w) = refl
  settles rows (a_value Steps w) = refl
  settles rows (a_value Counts w) = refl

  asks_fault : (name : OptionName) (rows : List Row) (last : Last) (b : Bool) → faults (free rows last b) (codes "--" ++ word_of name) ≡ []
  asks_fault Steps rows nothing true = refl
  asks_fault Steps rows nothing false = refl
  asks_fault Steps rows (an_argument w) true = refl
  asks_fault Steps rows (an_argument w) false = refl
  asks_fault Steps rows (a_value Steps w) true = refl
  asks_fault Steps rows (a_value Steps w) false = refl
  asks_fault Steps rows (a_value Counts w) true = refl
  asks_fault Steps rows (a_value Counts w) false = refl
  asks_fault Counts rows nothing true = refl
  asks_fault Counts rows nothing false = refl
  asks_fault Counts rows (an_argument w) true = refl
  asks_fault Counts rows (an_argument w) false = refl
  asks_fault Counts rows (a_value Steps w) true = refl
  asks_fault Counts rows (a_value Steps w) false = refl
  asks_fault Counts rows (a_value Counts w) true = refl
  asks_fault Counts rows (a_value Counts w) false = refl

  gives_fault : (name : OptionName) (rows : List Row) (last : Last) (b : Bool) (v : Text) → faults (free rows last b) (codes "--" ++ word_of name ++ (codes "=" ++ v)) ≡ []
  gives_fault Steps rows nothing true v = refl
  gives_fault Steps rows nothing false v = refl
  gives_fault Steps rows (an_argument w) true v = refl
  gives_fault Steps rows (an_argument w) false v = refl
  gives_fault Steps rows (a_value Steps w) true v = refl
  gives_fault Steps rows (a_value Steps w) false v = refl
  gives_fault Steps rows (a_value Counts w) true v = refl
  gives_fault Steps rows (a_value Counts w) false v = refl
  gives_fault Counts rows nothing true v = refl
  gives_fault Counts rows nothing false v = refl
  gives_fault Counts rows (an_argument w) true v = refl
  gives_fault Counts rows (an_argument w) false v = refl
  gives_fault Counts rows (a_value Steps w) true v = refl
  gives_fault Counts rows (a_value Steps w) false v = refl
  gives_fault Counts rows (a_value Counts w) true v = refl
  gives_fault Counts rows (a_value Counts w) false v = refl

  awaiting_plain_fault : (name : OptionName) (rows : List Row) (word : Text) → IsPlain word → faults (awaiting name rows) word ≡ []
  awaiting_plain_fault Steps rows word p = rw (p.end, p.long, p.short) refl
  awaiting_plain_fault Counts rows word p = rw (p.end, p.long, p.short) refl

  awaiting_end_fault : (name : OptionName) (rows : List Row) → faults (awaiting name rows) (codes "--") ≡ []
  awaiting_end_fault Steps rows = refl
  awaiting_end_fault Counts rows = refl

  -- a long option that the command lacks
  long_fault : (rows : List Row) (pending : Option (Text × List Text)) (waiting : Waiting) (word long_name : Text) (v : Option Text) → long_of word ≡ Some (long_name, v)
      → IsUnknown long_name → IsStrange word → subcommand_met [] waiting word ≡ None → IsFaulty (faults (at_rows rows pending waiting false) word)
  long_fault rows pending waiting word long_name v is other strange none e =
      let unknown : faults (at_rows rows pending waiting false) word ≡ UnknownArgument ∷ [] = rw (none, strange.end, is, other.steps, other.counts) refl in
      cc

  unknown_bundle : (x : ℕ) (xs : List ℕ) (h : Held) → IsUtf8 (45 ∷ x ∷ xs) → flags_fault rules false (length (x ∷ xs)) (x ∷ xs) 0 h ≡ UnknownArgument ∷ []
  unfolding flags_fault
  unknown_bundle x xs h text =
      ap (λ o. bundle_step_fault rules false o (x ∷ xs) 0 h (flags_fault rules false (length xs))) (first_letter x xs text).1

  bundle_fault : (rows : List Row) (pending : Option (Text × List Text)) (waiting : Waiting) (word flags : Text) → long_of word ≡ None → short_of word ≡ Some flags → bytes_eq word (codes "--") ≡ false
      → flags_fault rules false (length flags) flags 0 (record { rows = rows; pending = pending; skip = 0 }) ≡ UnknownArgument ∷ [] → subcommand_met [] waiting word ≡ None
      → IsFaulty (faults (at_rows rows pending waiting false) word)
  bundle_fault rows pending waiting word flags no_long flags_are no_end bundle none e =
      let unknown : faults (at_rows rows pending waiting false) word ≡ UnknownArgument ∷ [] = rw (none, no_end, no_long, flags_are, bundle) refl in
      cc

  short_fault : (rows : List Row) (pending : Option (Text × List Text)) (waiting : Waiting) (x : ℕ) (xs : List ℕ) → (x == 45) ≡ false → IsUtf8 (45 ∷ x ∷ xs)
      → subcommand_met [] waiting (45 ∷ x ∷ xs) ≡ None → IsFaulty (faults (at_rows rows pending waiting false) (45 ∷ x ∷ xs))
  short_fault rows pending waiting x xs other text none =
      bundle_fault rows pending waiting (45 ∷ x ∷ xs) (x ∷ xs) (rw other refl) (rw other refl) (rw other refl) (unknown_bundle x xs _ text) none

  -- an option behind an option
  awaiting_asks_fault : (name other : OptionName) (rows : List Row) → IsFaulty (faults (awaiting name rows) (codes "--" ++ word_of other))
  awaiting_asks_fault Steps Steps rows e = cc
  awaiting_asks_fault Steps Counts rows e = cc
  awaiting_asks_fault Counts Steps rows e = cc
  awaiting_asks_fault Counts Counts rows e = cc

  awaiting_gives_fault : (name other : OptionName) (rows : List Row) (v : Text) → IsFaulty (faults (awaiting name rows) (codes "--" ++ word_of other ++ (codes "=" ++ v)))
  awaiting_gives_fault Steps Steps rows v e = cc
  awaiting_gives_fault Steps Counts rows v e = cc
  awaiting_gives_fault Counts Steps rows v e = cc
  awaiting_gives_fault Counts Counts rows v e = cc

  spoiled_fault : (name : OptionName) (rows : List Row) (word : Text) → IsFaulty (faults (spoiled name rows) word)
  spoiled_fault Steps rows word e = cc
  spoiled_fault Counts rows word e = cc

  -- an option without a value
  lacking_fault : (name : OptionName) (rows : List Row) → IsFaulty (settle_fault rules false (awaiting name rows).held)
  lacking_fault Steps rows e = cc
  lacking_fault Counts rows e = cc

  no_subcommand : (b : Bool) (word : Text) → subcommand_met [] (waits b) word ≡ None
  no_subcommand true word = refl
  no_subcommand false word = refl

  -- ---- all words

  abbrev pub ends_at : Walk → List Text → Held
  ends_at w words = (fold (walked rules []) w words).held

  abbrev pub all_faults : Walk → List Text → Kinds
  all_faults w words = or_else (walk_fault (built_shape name) [] w words) (settle_fault rules false (ends_at w words))

  -- the words are taken, and the rows hold these parts
  pub record Takes (w : Walk) (words : List Text) (parts : Parts) : Type 0 where
    pub none : all_faults w words ≡ []
    pub parts_are : parts_of_rows (settled rules (ends_at w words)).rows ≡ parts

  -- words without parts are refused
  abbrev pub Answers : Walk → List Text → Parts → Option Parts → Type 0
  Answers w words before None = IsFaulty (all_faults w words)
  Answers w words before (Some parts) = Takes w words (joined before parts)

  -- one word, and then the rest
  module _ (w next : Walk) (word : Text) (words : List Text) (moves : walked rules [] w word ≡ next) (none : faults w word ≡ []) where
    faults_behind : all_faults w (word ∷ words) ≡ all_faults next words
    unfolding walk_fault
    faults_behind =
        ap (λ k. or_else k (settle_fault rules false (ends_at w (word ∷ words)))) (past (faults w word) _ none)
        ∙ ap (λ v. all_faults v words) moves

    takes_behind : (parts : Parts) → Takes next words parts → Takes w (word ∷ words) parts
    takes_behind parts t = record { none = faults_behind ∙ t.none; parts_are = ap (λ v. parts_of_rows (settled rules (ends_at v words)).rows) moves ∙ t.parts_are }

    same_behind : (before : Parts) (found : Option Parts) → Answers next words before found → Answers w (word ∷ words) before found
    same_behind before None h = λ e. h (sym faults_behind ∙ e)
    same_behind before (Some parts) t = takes_behind _ t

    -- what is added before the word's rest is added to what that has
    more_behind : (before more : Parts) (add : Parts → Parts) → ((parts : Parts) → joined more parts ≡ joined before (add parts)) → (found : Option Parts)
        → Answers next words more found → Answers w (word ∷ words) before (option_map add found)
    more_behind before more add moved None h = λ e. h (sym faults_behind ∙ e)
    more_behind before more add moved (Some parts) t = subst (Takes w (word ∷ words)) (moved parts) (takes_behind _ t)

  -- a word that is refused
  refused_here : (w : Walk) (word : Text) (words : List Text) → IsFaulty (faults w word) → IsFaulty (all_faults w (word ∷ words))
  unfolding walk_fault
  refused_here w word words h e = h (first_none _ _ (first_none _ _ e))

  -- behind `--` each word is an argument
  end_answers : (words : List Text) (rows : List Row) (last : Last) (b : Bool)
      → Takes (behind_end rows last b) words (joined (parts_of_rows (settle rows last)) (arguments_alone words))
  unfolding walk_fault
  end_answers [] rows last b = record { none = settles rows last; parts_are = sym (joined_nothing _) }
  end_answers (word ∷ words) rows last b =
      let next = behind_end (settle rows last) (an_argument word) true in
      subst (Takes (behind_end rows last b) (word ∷ words)) (argument_moves (parts_of_rows (settle rows last)) word (arguments_alone words))
      (takes_behind (behind_end rows last b) next word words (end_word rows last b word) (end_word_fault rows last b word) _
      (subst (λ before. Takes next words (joined before (arguments_alone words))) (argument_row (settle rows last) word) (end_answers words (settle rows last) (an_argument word) true)))

  spoiled_answers : (words : List Text) (name : OptionName) (rows : List Row) → IsFaulty (all_faults (spoiled name rows) words)
  unfolding walk_fault
  spoiled_answers [] name rows = lacking_fault name rows
  spoiled_answers (word ∷ words) name rows = refused_here (spoiled name rows) word words (spoiled_fault name rows word)

  abbrev FreeAnswers : List Text → Type 0
  FreeAnswers words = (rows : List Row) (last : Last) (b : Bool) → Answers (free rows last b) words (parts_of_rows (settle rows last)) (parts_of words)

  abbrev AwaitingAnswers : List Text → Type 0
  AwaitingAnswers words = (name : OptionName) (rows : List Row) → Answers (awaiting name rows) words (parts_of_rows rows) (parts_behind words name)

  -- by how the word is read
  module _ (word : Text) (words : List Text) where
    abbrev by : Reading → Option Parts
    by reading = parts_by reading word words (parts_of words) (parts_behind words)

    read_so : (w : Walk) (before : Parts) (reading : Reading) → reading_of word ≡ reading → Answers w (word ∷ words) before (by reading) → Answers w (word ∷ words) before (parts_of (word ∷ words))
    read_so w before reading is = subst (λ r. Answers w (word ∷ words) before (by r)) (sym is)

  free_word : (word : Text) → Kind word → (words : List Text) → IsUtf8 word → FreeAnswers words → AwaitingAnswers words → (rows : List Row) (last : Last) (b : Bool)
      → Answers (free rows last b) (word ∷ words) (parts_of_rows (settle rows last)) (parts_of (word ∷ words))
  free_word _ (plain word p) words text if_free if_awaiting rows last b =
      let next = free (settle rows last) (an_argument word) true in
      read_so word words _ _ _ p.reading
      (more_behind (free rows last b) next word words (free_plain rows last b word p) (plain_fault rows last b word p) _ _ (with_argument word) (argument_moves _ word) (parts_of words)
      (subst (λ before. Answers next words before (parts_of words)) (argument_row (settle rows last) word) (if_free (settle rows last) (an_argument word) true)))
  free_word _ end words text if_free if_awaiting rows last b =
      takes_behind (free rows last b) (behind_end rows last b) (codes "--") words (free_end rows last b) (end_fault rows last b) _ (end_answers words rows last b)
  free_word _ (asking name) words text if_free if_awaiting rows last b =
      read_so (codes "--" ++ word_of name) words _ _ _ (asks_read name)
      (same_behind (free rows last b) (awaiting name (settle rows last)) (codes "--" ++ word_of name) words (free_asks name rows last b) (asks_fault name rows last b) _ (parts_behind words name)
      (if_awaiting name (settle rows last)))
  free_word _ (giving name v) words text if_free if_awaiting rows last b =
      let next = free (settle (settle rows last) (a_value name v)) nothing false in
      read_so (codes "--" ++ word_of name ++ (codes "=" ++ v)) words _ _ _ (gives_read name v)
      (more_behind (free rows last b) next (codes "--" ++ word_of name ++ (codes "=" ++ v)) words (free_gives name rows last b v) (gives_fault name rows last b v) _ _ (with_value name v) (value_moves name _ v) (parts_of words)
      (subst (λ before. Answers next words before (parts_of words)) (value_row name (settle rows last) v) (if_free (settle (settle rows last) (a_value name v)) nothing false)))
  free_word _ (long word long_name v is other strange) words text if_free if_awaiting rows last b =
      read_so word words _ _ _ strange.reading
      (refused_here _ word words (long_fault rows (pending_of last) (waits b) word long_name v is other strange (no_subcommand b word)))
  free_word _ (short x xs other strange) words text if_free if_awaiting rows last b =
      read_so (45 ∷ x ∷ xs) words _ _ _ strange.reading
      (refused_here _ (45 ∷ x ∷ xs) words (short_fault rows (pending_of last) (waits b) x xs other text (no_subcommand b (45 ∷ x ∷ xs))))

  -- behind an option, another one is refused
  option_refused : (word : Text) (words : List Text) (name : OptionName) (rows : List Row) → is_option word ≡ true → IsFaulty (faults (awaiting name rows) word)
      → Answers (awaiting name rows) (word ∷ words) (parts_of_rows rows) (parts_behind (word ∷ words) name)
  option_refused word words name rows is h = subst (Answers (awaiting name rows) (word ∷ words) _) (sym (cond-true _ _ _ is)) (refused_here _ word words h)

  awaiting_word : (word : Text) → Kind word → (words : List Text) → IsUtf8 word → FreeAnswers words → (name : OptionName) (rows : List Row)
      → Answers (awaiting name rows) (word ∷ words) (parts_of_rows rows) (parts_behind (word ∷ words) name)
  awaiting_word _ (plain word p) words text if_free name rows =
      let next = free rows (a_value name word) false in
      subst (Answers (awaiting name rows) (word ∷ words) _) (sym (cond-false _ _ _ p.option))
      (more_behind (awaiting name rows) next word words (awaiting_plain name rows word p) (awaiting_plain_fault name rows word p) _ _ (with_value name word) (value_moves name _ word) (parts_of words)
      (subst (λ before. Answers next words before (parts_of words)) (value_row name rows word) (if_free rows (a_value name word) false)))
  awaiting_word _ end words text if_free name rows =
      same_behind (awaiting name rows) (spoiled name rows) (codes "--") words (awaiting_end name rows) (awaiting_end_fault name rows) (parts_of_rows rows) None (spoiled_answers words name rows)
  awaiting_word _ (asking other) words text if_free name rows = option_refused (codes "--" ++ word_of other) words name rows (asks_option other) (awaiting_asks_fault name other rows)
  awaiting_word _ (giving other v) words text if_free name rows = option_refused (codes "--" ++ word_of other ++ (codes "=" ++ v)) words name rows (gives_option other v) (awaiting_gives_fault name other rows v)
  awaiting_word _ (long word long_name v is other strange) words text if_free name rows =
      option_refused word words name rows strange.option (long_fault rows (Some (word_of name, [])) (option (word_of name)) word long_name v is other strange refl)
  awaiting_word _ (short x xs other strange) words text if_free name rows =
      option_refused (45 ∷ x ∷ xs) words name rows strange.option (short_fault rows (Some (word_of name, [])) (option (word_of name)) x xs other text refl)

  answers : (words : List Text) → AllText words → FreeAnswers words × AwaitingAnswers words
  unfolding walk_fault
  answers [] text = (
    λ rows last b. record { none = settles rows last; parts_are = sym (joined_nothing _) },
    λ name rows. lacking_fault name rows,
  )
  answers (word ∷ words) text =
      let later = answers words text.1 in (
        λ rows last b. free_word word (kind word) words text.0 later.0 later.1 rows last b,
        λ name rows. awaiting_word word (kind word) words text.0 later.0 name rows,
      )

  -- the words behind a command, from the start
  pub taken_apart : (words : List Text) → AllText words → Answers (walk_from nothing_held) words (arguments_alone []) (parts_of words)
  taken_apart words text = (answers words text).0 [] nothing false
