-- How the words of a command are taken apart, and what those of a request say of its files and its numbers.
use Rattle.std.proofs.Common.{◌≡◌, ◌+◌, ◌∙◌, ap, sym, ℕ, ◌^◌, ◌<◌, ◌≤◌, nat_le, nat_lt, length, Bool, ◌&&◌, ◌||◌, not, true, false, cond, List, [], ◌∷◌, ◌++◌, drop, map, Option, Some, None, refl, subst, arith}
use Rattle.std.specs.Prelude.{⊤, Decides, IfSome, codes, option_and_then}
use Rattle.std.specs.List.{list_any}
use Rattle.std.specs.Borrow.{Bor}
use Rattle.std.specs.Option.{option_map}
use Rattle.std.specs.Str.{bytes_eq}
use Rattle.std.proofs.lemmas.Bool.{and_parts, cond-false, eqb-true, leb-true, ltb-true, false_from_ne_true, not-false, true≢false}
use Rattle.std.proofs.lemmas.Bool.Decides.{not_from_Decides}
use Rattle.std.proofs.lemmas.Slice.Eq.{bytes_eq-Decides}
use Rattle.clap.specs.Walk.{texts}
use Rattle.bl_base.specs.Quantity.{limit_of}
use Rattle.bl_base.specs.declared.quantity.Quantity.TheVariants as quantity
use Rattle.bl_text.specs.Names.{AreNamedApart, module_name}
use Rattle.bl_words.specs.Requests.{AreInRange, AreDriveStepsInRange, Command, GenRequest, HardenRequest, InterpRequest, IsGenInRange, Parts, PredictRequest, Request, RunRequest, are_distinct, are_files_unlike, asked_among, command_of, commands, file_named, forward, gen, gen_of, harden, harden_of, interp, interp_of, is_none_of, join, join_of, kept, lower, lower_of, modules_in, modules_of, number_of_steps, part, part_of, parts_behind, parts_by, parts_of, predict, predict_of, request_of, run, run_of, seed_of, size_of, spec, spec_of, steps_of, drive_steps_of, twin, twin_of, value_of, verify, verify_of, with_counts, BeginsWithDash, IsOption, IsTakenApart, no_words, options_end, argument, value_in_next_word, value_in_same_word, OptionName, Steps, Counts, Reading, ends, asks, gives, strange, plain, arguments_alone, begins_with_dash, has_value_of, is_option, options, reading_among, reading_of, with_argument, with_value, word_of}
use Rattle.bl_text.specs.Digits.{decimal_below}
use Rattle.bl_words.specs.Words.{text_in}
use Rattle.bl_words.proofs.WordKinds.{value_is}
use Rattle.bl_words.proofs.ModuleWords.{named_apart}
use Rattle.bl_text.proofs.Decimals.{below_limit}

-- the tests of a word say what they are named for
begins : (word : List ℕ) → begins_with_dash word ≡ true → BeginsWithDash word
begins [] e = cc
begins (first ∷ rest) e = record { rest = rest; spelled = ap (λ n. n ∷ rest) (eqb-true first 45 e) }

option_is : (word : List ℕ) → is_option word ≡ true → IsOption word
option_is [] e = cc
option_is (first ∷ []) e = cc
option_is (first ∷ second ∷ rest) e = record { begins_with_dash = begins (first ∷ second ∷ rest) e; not_alone = λ alone. cc }

is_option_of : (rest : List ℕ) → (codes "-" ++ rest ≡ codes "-" → ⊥) → is_option (codes "-" ++ rest) ≡ true
is_option_of [] more = absurd (more refl)
is_option_of (second ∷ rest) more = refl

option_decides : (word : List ℕ) → Decides (is_option word) (IsOption word)
option_decides word = (
  option_is word,
  λ option.
      let dash = option.begins_with_dash in
      ap is_option dash.spelled ∙ is_option_of dash.rest (λ alone. option.not_alone (dash.spelled ∙ alone)),
)

-- what holds of both of two choices holds of the one that is made
of_cond : {A : Type 0} (P : A → Type 0) (test : Bool) (x y : A) → (test ≡ true → P x) → (test ≡ false → P y) → P (cond test x y)
of_cond P true x y yes_so not_so = yes_so refl
of_cond P false x y yes_so not_so = not_so refl

-- the words are taken apart so, where parts are found
abbrev AreParts : List (List ℕ) → Option Parts → Type 0
AreParts words None = ⊤
AreParts words (Some parts) = IsTakenApart words parts

-- what is taken apart behind something
behind_it : (front words : List (List ℕ)) (add : Parts → Parts) (found : Option Parts) → ((parts : Parts) → IsTakenApart words parts → IsTakenApart (front ++ words) (add parts)) → AreParts words found
    → AreParts (front ++ words) (option_map add found)
behind_it front words add None more parts = tt
behind_it front words add (Some found) more parts = more found parts

-- what each reading says of a word
abbrev Says : List ℕ → Reading → Type 0
Says word ends = word ≡ codes "--"
Says word (asks name) = word ≡ codes "--" ++ word_of name
Says word (gives name value) = word ≡ codes "--" ++ word_of name ++ (codes "=" ++ value)
Says word strange = ⊤
Says word plain = IsOption word → ⊥

says_among : (names : List OptionName) (word : List ℕ) → Says word (reading_among names word)
says_among [] word = of_cond (Says word) (is_option word) _ _ (λ _. tt) (λ not_so. not_from_Decides _ (option_decides word) not_so)
says_among (name ∷ names) word =
    of_cond (Says word) (bytes_eq word (codes "--" ++ word_of name)) _ _ (λ e. (bytes_eq-Decides _ _).0 e)
    (λ _. of_cond (Says word) (has_value_of name word) _ _ (λ e. sym (value_is name word e)) (λ _. says_among names word))

says : (word : List ℕ) → Says word (reading_of word)
says word = of_cond (Says word) (bytes_eq word (codes "--")) _ _ (λ e. (bytes_eq-Decides _ _).0 e) (λ _. says_among options word)

-- the parts of words, as the first one is read
parts_so : (word : List ℕ) (words : List (List ℕ)) (reading : Reading) → Says word reading → AreParts words (parts_of words)
    → ((name : OptionName) → AreParts ((codes "--" ++ word_of name) ∷ words) (parts_behind words name))
    → AreParts (word ∷ words) (parts_by reading word words (parts_of words) (parts_behind words))
parts_so word words ends is found behind = subst (λ w. IsTakenApart (w ∷ words) (arguments_alone words)) (sym is) (options_end words)
parts_so word words (asks name) is found behind = subst (λ w. AreParts (w ∷ words) (parts_behind words name)) (sym is) (behind name)
parts_so word words (gives name value) is found behind =
    subst (λ w. AreParts (w ∷ words) (option_map (with_value name value) (parts_of words))) (sym is)
    (behind_it ((codes "--" ++ word_of name ++ (codes "=" ++ value)) ∷ []) words (with_value name value) (parts_of words)
    (λ parts apart. value_in_same_word name value words parts apart) found)
parts_so word words strange is found behind = tt
parts_so word words plain not_so found behind =
    behind_it (word ∷ []) words (with_argument word) (parts_of words) (λ parts apart. argument word words parts not_so apart) found

mutual
  are_parts : (words : List (List ℕ)) → AreParts words (parts_of words)
  are_parts [] = no_words
  are_parts (word ∷ words) = parts_so word words (reading_of word) (says word) (are_parts words) (are_parts_behind words)

  are_parts_behind : (words : List (List ℕ)) (name : OptionName) → AreParts ((codes "--" ++ word_of name) ∷ words) (parts_behind words name)
  are_parts_behind [] name = tt
  are_parts_behind (value ∷ words) name =
      of_cond (AreParts ((codes "--" ++ word_of name) ∷ value ∷ words)) (is_option value) _ _
      (λ dash. tt)
      (λ other. behind_it ((codes "--" ++ word_of name) ∷ value ∷ []) words (with_value name value) (parts_of words)
      (λ parts apart. value_in_next_word name value words parts (not_from_Decides _ (option_decides value) other) apart) (are_parts words))

pub taken_apart : (words : List (List ℕ)) (parts : Parts) → parts_of words ≡ Some parts → IsTakenApart words parts
taken_apart words parts found = subst (AreParts words) found (are_parts words)

-- a test that options alone pass fails at another word
other_fails : (word : List ℕ) (test : Bool) → (IsOption word → ⊥) → (test ≡ true → is_option word ≡ true) → test ≡ false
other_fails word test not_so so = false_from_ne_true test (λ e. not_so (option_is word (so e)))

-- the words that rules name are options
pub asks_option : (name : OptionName) → is_option (codes "--" ++ word_of name) ≡ true
asks_option Steps = refl
asks_option Counts = refl

pub gives_option : (name : OptionName) (v : List ℕ) → is_option (codes "--" ++ word_of name ++ (codes "=" ++ v)) ≡ true
gives_option Steps v = refl
gives_option Counts v = refl

plain_among : (names : List OptionName) (word : List ℕ) → (IsOption word → ⊥) → reading_among names word ≡ plain
plain_among [] word not_so = cond-false (is_option word) _ _ (other_fails word _ not_so (λ e. e))
plain_among (name ∷ names) word not_so =
    cond-false (bytes_eq word (codes "--" ++ word_of name)) _ _ (other_fails word _ not_so (λ e. ap is_option ((bytes_eq-Decides word (codes "--" ++ word_of name)).0 e) ∙ asks_option name))
    ∙ cond-false (has_value_of name word) _ _ (other_fails word _ not_so (λ e. ap is_option (sym (value_is name word e)) ∙ gives_option name (drop (length (word_of name) + 3) word)))
    ∙ plain_among names word not_so

plain_read : (word : List ℕ) → (IsOption word → ⊥) → reading_of word ≡ plain
plain_read word not_so = cond-false (bytes_eq word (codes "--")) _ _ (other_fails word _ not_so (λ e. ap is_option ((bytes_eq-Decides word (codes "--")).0 e))) ∙ plain_among options word not_so

pub asks_read : (name : OptionName) → reading_of (codes "--" ++ word_of name) ≡ asks name
asks_read Steps = refl
asks_read Counts = refl

pub gives_read : (name : OptionName) (v : List ℕ) → reading_of (codes "--" ++ word_of name ++ (codes "=" ++ v)) ≡ gives name v
gives_read Steps v = refl
gives_read Counts v = refl

abbrev read_as : List ℕ → List (List ℕ) → Reading → Option Parts
read_as word words reading = parts_by reading word words (parts_of words) (parts_behind words)

pub parts_found : (words : List (List ℕ)) (parts : Parts) → IsTakenApart words parts → parts_of words ≡ Some parts
parts_found _ _ no_words = refl
parts_found _ _ (options_end words) = refl
parts_found _ _ (argument word words parts not_so apart) =
    ap (read_as word words) (plain_read word not_so) ∙ ap (option_map (with_argument word)) (parts_found words parts apart)
parts_found _ _ (value_in_next_word name value words parts not_so apart) =
    ap (read_as (codes "--" ++ word_of name) (value ∷ words)) (asks_read name)
    ∙ cond-false (is_option value) _ _ (other_fails value _ not_so (λ e. e))
    ∙ ap (option_map (with_value name value)) (parts_found words parts apart)
parts_found _ _ (value_in_same_word name value words parts apart) =
    ap (read_as (codes "--" ++ word_of name ++ (codes "=" ++ value)) words) (gives_read name value)
    ∙ ap (option_map (with_value name value)) (parts_found words parts apart)

-- ---- numbers

-- what holds of what is found, and of what comes of it
found_then : {A B : Type 0} (P : A → Type 0) (Q : B → Type 0) (next : A → Option B) (found : Option A) → IfSome found P → ((a : A) → P a → IfSome (next a) Q)
    → IfSome (option_and_then next found) Q
found_then P Q next None p h = tt
found_then P Q next (Some a) p h = h a p

seed_below : (word : List ℕ) → IfSome (seed_of word) (λ seed. seed < 2 ^ 64)
seed_below word =
    found_then (λ seed. seed < 2 ^ 64) (λ seed. seed < 2 ^ 64) _ (decimal_below (2 ^ 64) word) (below_limit (2 ^ 64) word)
    (λ seed below. of_cond (λ found. IfSome found (λ seed. seed < 2 ^ 64)) (nat_lt (length word) 21) (Some seed) None (λ _. below) (λ _. tt))

abbrev IsSize : ℕ → Type 0
IsSize size = (1 ≤ size) × (size ≤ limit_of quantity.Functions)

size_within : (word : List ℕ) → IfSome (size_of word) IsSize
size_within word =
    found_then (λ size. size < limit_of quantity.Functions + 1) IsSize _ (decimal_below (limit_of quantity.Functions + 1) word) (below_limit (limit_of quantity.Functions + 1) word)
    (λ size below. of_cond (λ found. IfSome found IsSize) (nat_lt 0 size && nat_lt (length word) 6) (Some size) None
    (λ e.
    let positive = ltb-true 0 size (and_parts (nat_lt 0 size) (nat_lt (length word) 6) e).0 in
    (omega (arith, positive), omega (arith, below)))
    (λ _. tt))

gen_within : (arguments : List (List ℕ)) (steps : Option (List ℕ)) → IfSome (gen_of arguments steps) IsGenInRange
gen_within (seed_word ∷ size_word ∷ []) None =
    found_then (λ seed. seed < 2 ^ 64) IsGenInRange _ (seed_of seed_word) (seed_below seed_word)
    (λ seed below. sized seed below (size_of size_word) (size_within size_word))
  where
    sized : (seed : ℕ) → seed < 2 ^ 64 → (found : Option ℕ) → IfSome found IsSize → IfSome (option_map (λ size. record { seed = seed; size = size }) found) IsGenInRange
    sized seed below None within = tt
    sized seed below (Some size) within = record { seed_fits = below; size_is_positive = within.0; size_is_within = within.1 }
gen_within _ _ = tt

steps_within : (word : List ℕ) → IfSome (number_of_steps word) AreInRange
steps_within word =
    found_then (λ steps. steps < 2 ^ 32) AreInRange _ (decimal_below (2 ^ 32) word) (below_limit (2 ^ 32) word)
    (λ steps below. of_cond (λ found. IfSome found AreInRange) (nat_lt 0 steps && nat_lt (length word) 11) (Some steps) None
    (λ e. let positive = ltb-true 0 steps (and_parts (nat_lt 0 steps) (nat_lt (length word) 11) e).0 in record { some = omega (arith, positive); few = below })
    (λ _. tt))

steps_in : (value : Option (List ℕ)) → IfSome (steps_of value) AreInRange
steps_in None = record { some = omega arith; few = omega arith }
steps_in (Some word) = steps_within word

-- what is made with a number of steps has that number
module _ {A : Type 0} (P : A → Type 0) (made : ℕ → A) (own : (steps : ℕ) → AreInRange steps → P (made steps)) where
  with_steps : (found : Option ℕ) → IfSome found AreInRange → IfSome (option_map made found) P
  with_steps None within = tt
  with_steps (Some steps) within = own steps within

interp_within : (arguments : List (List ℕ)) (steps : Option (List ℕ)) → IfSome (interp_of arguments steps) (λ request. AreInRange request.steps)
interp_within (export ∷ start ∷ words) steps = of_modules (modules_of words)
  where
    of_modules : (found : Option (List (List ℕ)))
        → IfSome (option_and_then (λ modules. option_map (λ steps. record { export = export; start = start; modules = modules; steps = steps }) (steps_of steps)) found)
        (λ (request : InterpRequest). AreInRange request.steps)
    of_modules None = tt
    of_modules (Some modules) = with_steps (λ (request : InterpRequest). AreInRange request.steps) _ (λ steps within. within) (steps_of steps) (steps_in steps)
interp_within _ _ = tt

run_within : (arguments : List (List ℕ)) (steps : Option (List ℕ)) → IfSome (run_of arguments steps) (λ request. AreInRange request.steps)
run_within (image ∷ export ∷ start ∷ []) steps = with_steps (λ (request : RunRequest). AreInRange request.steps) _ (λ steps within. within) (steps_of steps) (steps_in steps)
run_within _ _ = tt

drive_steps_in : (value : Option (List ℕ)) → IfSome (drive_steps_of value) AreDriveStepsInRange
drive_steps_in value =
    found_then AreInRange AreDriveStepsInRange _ (steps_of value) (steps_in value)
    (λ steps within. of_cond (λ found. IfSome found AreDriveStepsInRange) (nat_le steps (limit_of quantity.Directives)) (Some steps) None
    (λ e. record { some = within.some; few = leb-true steps (limit_of quantity.Directives) e })
    (λ _. tt))

predict_within : (arguments : List (List ℕ)) (steps : Option (List ℕ)) → IfSome (predict_of arguments steps) (λ request. AreDriveStepsInRange request.steps)
predict_within (image ∷ export ∷ trace ∷ start ∷ []) steps = with_drive_steps (drive_steps_of steps) (drive_steps_in steps)
  where
    with_drive_steps : (found : Option ℕ) → IfSome found AreDriveStepsInRange
        → IfSome (option_map (λ steps. record { image = image; export = export; trace = trace; start = start; steps = steps }) found)
        (λ (request : PredictRequest). AreDriveStepsInRange request.steps)
    with_drive_steps None within = tt
    with_drive_steps (Some steps) within = within
predict_within _ _ = tt

-- ---- requests

-- what a request keeps by its command
abbrev KeepsRules : Request → Type 0
KeepsRules (gen request) = IsGenInRange request
KeepsRules (interp request) = AreInRange request.steps
KeepsRules (run request) = AreInRange request.steps
KeepsRules (predict request) = AreDriveStepsInRange request.steps
KeepsRules _ = Unit {0}

made_keeps : {A : Type 0} (made : A → Request) (P : A → Type 0) → ((a : A) → P a → KeepsRules (made a)) → (found : Option A) → IfSome found P → IfSome (option_map made found) KeepsRules
made_keeps made P h None p = tt
made_keeps made P h (Some a) p = h a p

any_found : {A : Type 0} (found : Option A) → IfSome found (λ _. Unit {0})
any_found None = tt
any_found (Some a) = tt

-- what the row of a command asks for keeps the rules
abbrev RowKeeps : Command → Type 0
RowKeeps command = (arguments : List (List ℕ)) (steps : Option (List ℕ)) → IfSome (command.asks arguments steps) KeepsRules

plain_row : {A : Type 0} (made : A → Request) (read : List (List ℕ) → Option (List ℕ) → Option A) → ((a : A) → KeepsRules (made a)) → (arguments : List (List ℕ)) (steps : Option (List ℕ))
    → IfSome (option_map made (read arguments steps)) KeepsRules
plain_row made read h arguments steps = made_keeps made (λ _. Unit {0}) (λ a _. h a) (read arguments steps) (any_found (read arguments steps))

gen_row : (arguments : List (List ℕ)) (steps : Option (List ℕ)) → IfSome (option_map gen (gen_of arguments steps)) KeepsRules
gen_row arguments steps = made_keeps gen IsGenInRange (λ request within. within) (gen_of arguments steps) (gen_within arguments steps)

interp_row : (arguments : List (List ℕ)) (steps : Option (List ℕ)) → IfSome (option_map interp (interp_of arguments steps)) KeepsRules
interp_row arguments steps = made_keeps interp (λ request. AreInRange request.steps) (λ request within. within) (interp_of arguments steps) (interp_within arguments steps)

run_row : (arguments : List (List ℕ)) (steps : Option (List ℕ)) → IfSome (option_map run (run_of arguments steps)) KeepsRules
run_row arguments steps = made_keeps run (λ request. AreInRange request.steps) (λ request within. within) (run_of arguments steps) (run_within arguments steps)

predict_row : (arguments : List (List ℕ)) (steps : Option (List ℕ)) → IfSome (option_map predict (predict_of arguments steps)) KeepsRules
predict_row arguments steps =
    made_keeps predict (λ request. AreDriveStepsInRange request.steps) (λ request within. within) (predict_of arguments steps) (predict_within arguments steps)

abbrev AllKeep : List Command → Type 0
AllKeep [] = ⊤
AllKeep (one ∷ others) = RowKeeps one × AllKeep others

rows_keep : AllKeep commands
rows_keep = (
  plain_row harden harden_of (λ _. tt),
  (
    plain_row lower lower_of (λ _. tt),
    (
      interp_row,
      (
        run_row,
        (plain_row spec spec_of (λ _. tt), (plain_row verify verify_of (λ _. tt), (plain_row twin twin_of (λ _. tt), (plain_row forward twin_of (λ _. tt), (predict_row, (plain_row part part_of (λ _. tt), (plain_row join join_of (λ _. tt), (gen_row, tt)))))))),
      ),
    ),
  ),
)

asked_keeps : (all : List Command) → AllKeep all → (word : List ℕ) (arguments : List (List ℕ)) (steps : Option (List ℕ)) → IfSome (asked_among all word arguments steps) KeepsRules
asked_keeps [] keep word arguments steps = tt
asked_keeps (one ∷ all) keep word arguments steps =
    of_cond (λ found. IfSome found KeepsRules) (bytes_eq word one.name) _ _ (λ _. keep.0 arguments steps) (λ _. asked_keeps all keep.1 word arguments steps)

-- so does a request with a count file
counted_keeps : (counts : Option (List ℕ)) (found : Option Request) → IfSome found KeepsRules → IfSome (option_and_then (with_counts counts) found) KeepsRules
counted_keeps counts None h = tt
counted_keeps None (Some request) h = h
counted_keeps (Some file) (Some (harden request)) h = tt
counted_keeps (Some file) (Some (run request)) h = h
counted_keeps (Some file) (Some _) h = tt

-- what holds of each request that a command keeps holds of the request of words
then_holds : {A : Type 0} (P : Request → Type 0) (ask : A → Option Request) (found : Option A) → ((a : A) → IfSome (ask a) P) → IfSome (option_and_then ask found) P
then_holds P ask None h = tt
then_holds P ask (Some a) h = h a

of_words : (P : Request → Type 0) → ((request : Request) → KeepsRules request → IfSome (kept request) P) → (words : List (List ℕ)) → IfSome (request_of words) P
of_words P h (program ∷ word ∷ words) =
    then_holds P (command_of word) (parts_of words) (λ parts. then_holds P _ (value_of parts.steps_values) (λ steps. then_holds P _ (value_of parts.counts_values) (λ counts.
    found_then KeepsRules P kept (option_and_then (with_counts counts) (asked_among commands word parts.arguments steps))
    (counted_keeps counts (asked_among commands word parts.arguments steps) (asked_keeps commands rows_keep word parts.arguments steps)) h)))
of_words P h _ = tt

-- what is kept passes both tests
kept_holds : (P : Request → Type 0) (request : Request) → (are_files_unlike request ≡ true → are_distinct (map module_name (modules_in request)) ≡ true → P request)
    → IfSome (kept request) P
kept_holds P request h =
    of_cond (λ found. IfSome found P) (not (are_files_unlike request)) _ _ (λ _. tt)
    (λ differ. of_cond (λ found. IfSome found P) (are_distinct (map module_name (modules_in request))) _ _ (λ apart. h (not-false _ differ) apart) (λ _. tt))

holds_of : (P : Request → Type 0) → ((request : Request) → KeepsRules request → IfSome (kept request) P) → (words : List (List ℕ)) (request : Request) → request_of words ≡ Some request → P request
holds_of P h words request e = subst (λ asked. IfSome asked P) e (of_words P h words)

-- a file is none of some others and of the one that may be named, where it is none of the first and not that one
pub none_of : (file : List ℕ) (others : List (Bor (List ℕ))) (named : Option (Bor (List ℕ)))
    → is_none_of file (texts others ++ file_named (text_in named))
    ≡ cond (list_any (λ (other : Bor (List ℕ)). bytes_eq other.now file) others) false (is_none_of file (file_named (text_in named)))
none_of file [] named = refl
none_of file (other ∷ others) named = by (bytes_eq other.now file) (none_of file others named)
  where
    by : (b : Bool) → is_none_of file (texts others ++ file_named (text_in named))
        ≡ cond (list_any (λ (other : Bor (List ℕ)). bytes_eq other.now file) others) false (is_none_of file (file_named (text_in named)))
        → not (b || list_any (λ other. bytes_eq other file) (texts others ++ file_named (text_in named)))
        ≡ cond (b || list_any (λ (other : Bor (List ℕ)). bytes_eq other.now file) others) false (is_none_of file (file_named (text_in named)))
    by true rest = refl
    by false rest = rest

-- a file that is none of some isn't the first of them
unlike_first : (file first : List ℕ) (others : List (List ℕ)) → is_none_of file (first ∷ others) ≡ true → bytes_eq first file ≡ false
unlike_first file first others none = false_from_ne_true (bytes_eq first file) (λ same. true≢false (sym none ∙ ap not (any_first same)))
  where
    any_first : bytes_eq first file ≡ true → list_any (λ other. bytes_eq other file) (first ∷ others) ≡ true
    any_first same = rw same refl

-- the files that a `harden` keeps differ
pub request_differs : (words : List (List ℕ)) (request : HardenRequest) → request_of words ≡ Some (harden request) → bytes_eq request.image request.certificate ≡ false
request_differs words request e =
    let counts = file_named request.counts in
    let unlike = holds_of (λ request. are_files_unlike request ≡ true) (λ request _. kept_holds _ request (λ differ apart. differ)) words (harden request) e in
    unlike_first request.certificate request.image counts (and_parts (is_none_of request.certificate (request.image ∷ counts)) (is_none_of request.image counts) unlike).0

-- no two modules of a request have one name
pub names_apart : (words : List (List ℕ)) (request : Request) → request_of words ≡ Some request → AreNamedApart (modules_in request)
names_apart = holds_of (λ request. AreNamedApart (modules_in request)) (λ request _. kept_holds _ request (λ differ apart. named_apart (modules_in request) apart))

-- the seed and the size of a `gen` are in range
pub gen_in_range : (words : List (List ℕ)) (request : GenRequest) → request_of words ≡ Some (gen request) → IsGenInRange request
gen_in_range words request e = holds_of KeepsRules (λ request keep. kept_holds _ request (λ differ apart. keep)) words (gen request) e

-- and so are the steps of an `interp` and of a `run`
pub interp_in_range : (words : List (List ℕ)) (request : InterpRequest) → request_of words ≡ Some (interp request) → AreInRange request.steps
interp_in_range words request e = holds_of KeepsRules (λ request keep. kept_holds _ request (λ differ apart. keep)) words (interp request) e

pub run_in_range : (words : List (List ℕ)) (request : RunRequest) → request_of words ≡ Some (run request) → AreInRange request.steps
run_in_range words request e = holds_of KeepsRules (λ request keep. kept_holds _ request (λ differ apart. keep)) words (run request) e

-- and so are the steps of a `predict`
pub predict_in_range : (words : List (List ℕ)) (request : PredictRequest) → request_of words ≡ Some (predict request) → AreDriveStepsInRange request.steps
predict_in_range words request e = holds_of KeepsRules (λ request keep. kept_holds _ request (λ differ apart. keep)) words (predict request) e
