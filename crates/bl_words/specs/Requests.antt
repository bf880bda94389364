-- What the words of a call ask for.
use Rattle.std.specs.Prelude.{◌≡◌, ◌+◌, ℕ, ◌^◌, ◌<◌, ◌≤◌, Bool, ◌&&◌, not, true, false, List, [], ◌∷◌, ◌++◌, length, map, take, drop, Option, Some, None, option_and_then, nat_eq, nat_le, nat_lt, codes, if◌then◌else◌}
use Rattle.std.specs.List.{list_any}
use Rattle.std.specs.Option.{option_map}
use Rattle.std.specs.Str.{bytes_eq}
use Rattle.bl_base.specs.Quantity.{limit_of}
use Rattle.bl_base.specs.declared.quantity.Quantity.TheVariants as quantity
use Rattle.bl_base.specs.declared.names.Role.{Role}
use Rattle.bl_base.specs.declared.names.Role.TheVariants.{Client, Library}
use Rattle.bl_text.specs.Digits.{decimal_below}
use Rattle.bl_text.specs.Names.{module_name}

-- `harden`: the files that are written, the modules that are read, and the count file that is read, where one is named
pub record HardenRequest : Type 0 where
  pub image : List ℕ
  pub certificate : List ℕ
  pub modules : List (List ℕ)
  pub counts : Option (List ℕ)

-- `lower`: the file that is written, and the modules that are read
pub record LowerRequest : Type 0 where
  pub image : List ℕ
  pub modules : List (List ℕ)

-- `interp`: the name of an exported function, the start file and the modules that are read, and the most steps
pub record InterpRequest : Type 0 where
  pub export : List ℕ
  pub start : List ℕ
  pub modules : List (List ℕ)
  pub steps : ℕ

-- `run`: the image that is read, the name of an exported function, the start file that is read, the most steps, and the count file that
-- is written, where one is named
pub record RunRequest : Type 0 where
  pub image : List ℕ
  pub export : List ℕ
  pub start : List ℕ
  pub steps : ℕ
  pub counts : Option (List ℕ)

-- `spec`: the image that is read, the name of an exported function, and the trace file and the start file that are read
pub record SpecRequest : Type 0 where
  pub image : List ℕ
  pub export : List ℕ
  pub trace : List ℕ
  pub start : List ℕ

-- `verify`: the image and the certificate that are read
pub record VerifyRequest : Type 0 where
  pub image : List ℕ
  pub certificate : List ℕ

-- `twin` and `forward`: the image that is read, the name of an exported function, and the trace file and the two start files that are
-- read
pub record TwinRequest : Type 0 where
  pub image : List ℕ
  pub export : List ℕ
  pub trace : List ℕ
  pub start : List ℕ
  pub other_start : List ℕ

-- `predict`: the image that is read, the name of an exported function, the trace file that is written, the start file that is read, and the
-- most steps
pub record PredictRequest : Type 0 where
  pub image : List ℕ
  pub export : List ℕ
  pub trace : List ℕ
  pub start : List ℕ
  pub steps : ℕ

-- `part`: the side of an interface on which the modules stand, the image that is written, and the interface and the modules that are read
pub record PartRequest : Type 0 where
  pub role : Role
  pub image : List ℕ
  pub iface : List ℕ
  pub modules : List (List ℕ)

-- `join`: the image that is written, and the interface and the images of a client and of a library that are read
pub record JoinRequest : Type 0 where
  pub image : List ℕ
  pub iface : List ℕ
  pub client : List ℕ
  pub library : List ℕ

-- `gen`: the number that a module is made from, and its size
pub record GenRequest : Type 0 where
  pub seed : ℕ
  pub size : ℕ

-- what a call is asked for
pub data Request : Type 0 where
  harden : HardenRequest → Request
  lower : LowerRequest → Request
  interp : InterpRequest → Request
  run : RunRequest → Request
  spec : SpecRequest → Request
  verify : VerifyRequest → Request
  twin : TwinRequest → Request
  forward : TwinRequest → Request
  predict : PredictRequest → Request
  part : PartRequest → Request
  join : JoinRequest → Request
  gen : GenRequest → Request

-- the modules that a request reads
abbrev pub modules_in : Request → List (List ℕ)
modules_in (harden request) = request.modules
modules_in (lower request) = request.modules
modules_in (interp request) = request.modules
modules_in (part request) = request.modules
modules_in _ = []

-- a file that may be named
abbrev pub file_named : Option (List ℕ) → List (List ℕ)
file_named None = []
file_named (Some file) = file ∷ []

-- a word that begins with `-`
pub record BeginsWithDash (word : List ℕ) : Type 0 where
  pub rest : List ℕ
  pub spelled : word ≡ codes "-" ++ rest

-- an option begins with `-` and isn't `-` alone
pub record IsOption (word : List ℕ) : Type 0 where
  pub begins_with_dash : BeginsWithDash word
  pub not_alone : word ≡ codes "-" → ⊥

-- the options
pub data OptionName : Type 0 where
  Steps : OptionName
  Counts : OptionName

-- an option's name behind its `--`
abbrev pub word_of : OptionName → List ℕ
word_of Steps = codes "steps"
word_of Counts = codes "counts"

-- a command's words taken apart: its arguments, and the values that each option is given
pub record Parts : Type 0 where
  pub arguments : List (List ℕ)
  pub steps_values : List (List ℕ)
  pub counts_values : List (List ℕ)

-- arguments alone
abbrev pub arguments_alone : List (List ℕ) → Parts
arguments_alone words = record { arguments = words; steps_values = []; counts_values = [] }

abbrev pub with_argument : List ℕ → Parts → Parts
with_argument word parts = record parts { arguments = word ∷ parts.arguments }

abbrev pub with_value : OptionName → List ℕ → Parts → Parts
with_value Steps value parts = record parts { steps_values = value ∷ parts.steps_values }
with_value Counts value parts = record parts { counts_values = value ∷ parts.counts_values }

-- the parts of the words behind a command. Words can't be taken apart where, before a `--`, another option stands, or an option without
-- a value
pub data IsTakenApart : (words : List (List ℕ)) (parts : Parts) → Type 0 where
  -- no words have none
  no_words : IsTakenApart [] (arguments_alone [])
  -- the first `--` ends the options and is no argument: the words behind it are arguments
  options_end : (words : List (List ℕ)) → IsTakenApart (codes "--" ∷ words) (arguments_alone words)
  -- a word that is no option is an argument
  argument : (word : List ℕ) (words : List (List ℕ)) (parts : Parts) → (IsOption word → ⊥) → IsTakenApart words parts
      → IsTakenApart (word ∷ words) (with_argument word parts)
  -- an option takes the next word as its value, which is no option
  value_in_next_word : (name : OptionName) (value : List ℕ) (words : List (List ℕ)) (parts : Parts) → (IsOption value → ⊥)
      → IsTakenApart words parts
      → IsTakenApart ((codes "--" ++ word_of name) ∷ value ∷ words) (with_value name value parts)
  -- an option with a `=` is one word, and its value is what stands behind that
  value_in_same_word : (name : OptionName) (value : List ℕ) (words : List (List ℕ)) (parts : Parts) → IsTakenApart words parts
      → IsTakenApart ((codes "--" ++ word_of name ++ (codes "=" ++ value)) ∷ words) (with_value name value parts)

-- the tests of a word
abbrev pub begins_with_dash : List ℕ → Bool
begins_with_dash [] = false
begins_with_dash (first ∷ rest) = nat_eq first 45

abbrev pub is_option : List ℕ → Bool
is_option [] = false
is_option (first ∷ []) = false
is_option (first ∷ second ∷ rest) = nat_eq first 45

-- how a word is read where an option may stand
pub data Reading : Type 0 where
  -- it ends the options
  ends : Reading
  -- the next word is this option's value
  asks : OptionName → Reading
  -- it has this option's value in it
  gives : OptionName → List ℕ → Reading
  -- it is no option that there is
  strange : Reading
  -- it is an argument
  plain : Reading

abbrev pub options : List OptionName
options = Steps ∷ Counts ∷ []

-- the word is an option with a `=`
abbrev pub has_value_of : OptionName → List ℕ → Bool
has_value_of name word = bytes_eq (take (length (word_of name) + 3) word) (codes "--" ++ word_of name ++ codes "=")

-- as one of these options
abbrev pub reading_among : List OptionName → List ℕ → Reading
reading_among [] word = if is_option word then strange else plain
reading_among (name ∷ names) word =
    (if bytes_eq word (codes "--" ++ word_of name) then asks name
    else if has_value_of name word then gives name (drop (length (word_of name) + 3) word)
    else reading_among names word)

abbrev pub reading_of : List ℕ → Reading
reading_of word = if bytes_eq word (codes "--") then ends else reading_among options word

-- the parts of words, by how the first one is read: `found` are those of the words behind it, and `behind` those with a value first
abbrev pub parts_by : Reading → (word : List ℕ) (words : List (List ℕ)) (found : Option Parts) (behind : OptionName → Option Parts)
    → Option Parts
parts_by ends word words found behind = Some (arguments_alone words)
parts_by (asks name) word words found behind = behind name
parts_by (gives name value) word words found behind = option_map (with_value name value) found
parts_by strange word words found behind = None
parts_by plain word words found behind = option_map (with_argument word) found

abbrev mutual
  -- the parts of words, where they can be taken apart
  pub parts_of : List (List ℕ) → Option Parts
  parts_of [] = Some (arguments_alone [])
  parts_of (word ∷ words) = parts_by (reading_of word) word words (parts_of words) (parts_behind words)

  -- the parts of the words behind an option, the first of which is its value: a last option leaves no parts, and so does one with
  -- another option behind it
  pub parts_behind : List (List ℕ) → OptionName → Option Parts
  parts_behind [] name = None
  parts_behind (value ∷ words) name = (if is_option value then None else option_map (with_value name value) (parts_of words))

-- whether a word may be the value of an option: it isn't empty and doesn't begin with `-`
abbrev pub is_value : List ℕ → Bool
is_value [] = false
is_value (first ∷ rest) = not (nat_eq first 45)

-- the value of an option, which stands at most once, in either spelling
abbrev pub value_of : List (List ℕ) → Option (Option (List ℕ))
value_of [] = Some None
value_of (value ∷ []) = if is_value value then Some (Some value) else None
value_of values = None

-- N of `--steps N`: one to ten decimal digits, leading zeros among them, of a number from 1 to 4,294,967,295; so no
-- value begins with a sign
abbrev pub number_of_steps : List ℕ → Option ℕ
number_of_steps word =
    option_and_then (λ steps. if nat_lt 0 steps && nat_lt (length word) 11 then Some steps else None) (decimal_below (2 ^ 32) word)

-- the most steps, by the value of `--steps`
abbrev pub steps_of : Option (List ℕ) → Option ℕ
steps_of None = Some 1000000
steps_of (Some value) = number_of_steps value

-- the most steps of a `predict`, by the value of `--steps`: at most as many as a trace file may have lines
abbrev pub drive_steps_of : Option (List ℕ) → Option ℕ
drive_steps_of value = option_and_then (λ steps. if nat_le steps (limit_of quantity.Directives) then Some steps else None) (steps_of value)

-- SEED of `gen`: one to twenty decimal digits, leading zeros among them, of a number below 2^64; so it has no sign
abbrev pub seed_of : List ℕ → Option ℕ
seed_of word = option_and_then (λ seed. if nat_lt (length word) 21 then Some seed else None) (decimal_below (2 ^ 64) word)

-- SIZE of `gen`: one to five decimal digits, leading zeros among them, of a number from 1 to the most functions; so it has no sign
abbrev pub size_of : List ℕ → Option ℕ
size_of word =
    option_and_then (λ size. if nat_lt 0 size && nat_lt (length word) 6 then Some size else None)
    (decimal_below (limit_of quantity.Functions + 1) word)

-- the seed and the size of a `gen` are in range
pub record IsGenInRange (request : GenRequest) : Type 0 where
  pub seed_fits : request.seed < 2 ^ 64
  pub size_is_positive : 1 ≤ request.size
  pub size_is_within : request.size ≤ limit_of quantity.Functions

-- the most steps of an `interp` or a `run` are in range
pub record AreInRange (steps : ℕ) : Type 0 where
  pub some : 1 ≤ steps
  pub few : steps < 2 ^ 32

-- the most steps of a `predict` are in range: a trace file may have so many lines
pub record AreDriveStepsInRange (steps : ℕ) : Type 0 where
  pub some : 1 ≤ steps
  pub few : steps ≤ limit_of quantity.Directives

-- whether no word stands twice
abbrev pub are_distinct : List (List ℕ) → Bool
are_distinct [] = true
are_distinct (name ∷ names) = not (list_any (bytes_eq name) names) && are_distinct names

-- whether a file is none of the others
abbrev pub is_none_of : List ℕ → List (List ℕ) → Bool
is_none_of file others = not (list_any (λ other. bytes_eq other file) others)

-- whether no two files of a request that must differ are one. What it writes is none of these: of a `harden`, what it writes beside, and the count
-- file; of a `run`, the image; of a `predict` and of a `join`, what it reads, which may be one; of a `part`, the interface. And the image of a
-- `verify`, which writes nothing, isn't the certificate
abbrev pub are_files_unlike : Request → Bool
are_files_unlike (harden request) =
    is_none_of request.certificate (request.image ∷ file_named request.counts) && is_none_of request.image (file_named request.counts)
are_files_unlike (run request) = is_none_of request.image (file_named request.counts)
are_files_unlike (verify request) = is_none_of request.image (request.certificate ∷ [])
are_files_unlike (predict request) = is_none_of request.trace (request.image ∷ request.start ∷ [])
are_files_unlike (part request) = is_none_of request.image (request.iface ∷ [])
are_files_unlike (join request) = is_none_of request.image (request.iface ∷ request.client ∷ request.library ∷ [])
are_files_unlike _ = true

-- the modules of a request: at least one
abbrev pub modules_of : List (List ℕ) → Option (List (List ℕ))
modules_of [] = None
modules_of words = Some words

-- what `harden` asks for but for a count file: an image, a certificate, and modules
abbrev pub harden_of : List (List ℕ) → Option (List ℕ) → Option HardenRequest
harden_of (image ∷ certificate ∷ words) None =
    option_map (λ modules. record { image = image; certificate = certificate; modules = modules; counts = None }) (modules_of words)
harden_of arguments steps = None

-- what `lower` asks for: an image, and modules
abbrev pub lower_of : List (List ℕ) → Option (List ℕ) → Option LowerRequest
lower_of (image ∷ words) None = option_map (λ modules. record { image = image; modules = modules }) (modules_of words)
lower_of arguments steps = None

-- what `interp` asks for: an export, a start file and modules, and the most steps
abbrev pub interp_of : List (List ℕ) → Option (List ℕ) → Option InterpRequest
interp_of (export ∷ start ∷ words) steps =
    option_and_then
    (λ modules. option_map (λ steps. record { export = export; start = start; modules = modules; steps = steps }) (steps_of steps))
    (modules_of words)
interp_of arguments steps = None

-- what `run` asks for but for a count file: an image, an export and a start file, and the most steps
abbrev pub run_of : List (List ℕ) → Option (List ℕ) → Option RunRequest
run_of (image ∷ export ∷ start ∷ []) steps =
    option_map (λ steps. record { image = image; export = export; start = start; steps = steps; counts = None }) (steps_of steps)
run_of arguments steps = None

-- what `spec` asks for: an image, an export, a trace file and a start file
abbrev pub spec_of : List (List ℕ) → Option (List ℕ) → Option SpecRequest
spec_of (image ∷ export ∷ trace ∷ start ∷ []) None = Some (record { image = image; export = export; trace = trace; start = start })
spec_of arguments steps = None

-- what `verify` asks for: an image, and a certificate
abbrev pub verify_of : List (List ℕ) → Option (List ℕ) → Option VerifyRequest
verify_of (image ∷ certificate ∷ []) None = Some (record { image = image; certificate = certificate })
verify_of arguments steps = None

-- what `twin` and `forward` ask for: an image, an export, a trace file and two start files
abbrev pub twin_of : List (List ℕ) → Option (List ℕ) → Option TwinRequest
twin_of (image ∷ export ∷ trace ∷ start ∷ other_start ∷ []) None =
    Some (record { image = image; export = export; trace = trace; start = start; other_start = other_start })
twin_of arguments steps = None

-- what `predict` asks for: an image, an export, a trace file and a start file, and the most steps
abbrev pub predict_of : List (List ℕ) → Option (List ℕ) → Option PredictRequest
predict_of (image ∷ export ∷ trace ∷ start ∷ []) steps =
    option_map (λ steps. record { image = image; export = export; trace = trace; start = start; steps = steps }) (drive_steps_of steps)
predict_of arguments steps = None

-- the side that a word names
abbrev pub role_of : List ℕ → Option Role
role_of word = if bytes_eq word (codes "client") then Some Client else if bytes_eq word (codes "library") then Some Library else None

-- what `part` asks for: a side, an image, an interface, and modules
abbrev pub part_of : List (List ℕ) → Option (List ℕ) → Option PartRequest
part_of (role_word ∷ image ∷ iface ∷ words) None =
    option_and_then
    (λ role. option_map (λ modules. record { role = role; image = image; iface = iface; modules = modules }) (modules_of words))
    (role_of role_word)
part_of arguments steps = None

-- what `join` asks for: an image, an interface, and the images of a client and of a library
abbrev pub join_of : List (List ℕ) → Option (List ℕ) → Option JoinRequest
join_of (image ∷ iface ∷ client ∷ library ∷ []) None = Some (record { image = image; iface = iface; client = client; library = library })
join_of arguments steps = None

-- what `gen` asks for: a seed and a size
abbrev pub gen_of : List (List ℕ) → Option (List ℕ) → Option GenRequest
gen_of (seed_word ∷ size_word ∷ []) None =
    option_and_then (λ seed. option_map (λ size. record { seed = seed; size = size }) (size_of size_word)) (seed_of seed_word)
gen_of arguments steps = None

-- a command: the word that names it, and what it asks for with its arguments and the value of `--steps`
pub record Command : Type 0 where
  pub name : List ℕ
  pub asks : List (List ℕ) → Option (List ℕ) → Option Request

abbrev pub row : {A : Type 0} → List ℕ → (A → Request) → (List (List ℕ) → Option (List ℕ) → Option A) → Command
row name made read = record { name = name; asks = λ arguments steps. option_map made (read arguments steps) }

-- the commands
abbrev pub commands : List Command
commands =
    row (codes "harden") harden harden_of
    ∷ row (codes "lower") lower lower_of
    ∷ row (codes "interp") interp interp_of
    ∷ row (codes "run") run run_of
    ∷ row (codes "spec") spec spec_of
    ∷ row (codes "verify") verify verify_of
    ∷ row (codes "twin") twin twin_of
    ∷ row (codes "forward") forward twin_of
    ∷ row (codes "predict") predict predict_of
    ∷ row (codes "part") part part_of
    ∷ row (codes "join") join join_of
    ∷ row (codes "gen") gen gen_of
    ∷ []

-- what the command that a word names asks for with its arguments and the value of `--steps`
abbrev pub asked_among : List Command → List ℕ → List (List ℕ) → Option (List ℕ) → Option Request
asked_among [] word arguments steps = None
asked_among (first ∷ others) word arguments steps =
    if bytes_eq word first.name then first.asks arguments steps else asked_among others word arguments steps

-- a request with the value of `--counts`: `harden` and `run` alone have a count file
abbrev pub with_counts : Option (List ℕ) → Request → Option Request
with_counts None request = Some request
with_counts (Some file) (harden request) = Some (harden (record request { counts = Some file }))
with_counts (Some file) (run request) = Some (run (record request { counts = Some file }))
with_counts (Some file) request = None

-- a request in which no two files that must differ are one, and no two modules have one name
abbrev pub kept : Request → Option Request
kept request =
    (if not (are_files_unlike request) then None
    else if are_distinct (map module_name (modules_in request)) then Some request
    else None)

-- what the command that a word names asks for with these parts
abbrev pub command_of : List ℕ → Parts → Option Request
command_of word parts =
    option_and_then
    (λ steps.
    option_and_then
    (λ counts. option_and_then kept (option_and_then (with_counts counts) (asked_among commands word parts.arguments steps)))
    (value_of parts.counts_values))
    (value_of parts.steps_values)

-- the request of all words, the program's own name first, and then the command
abbrev pub request_of : List (List ℕ) → Option Request
request_of (program ∷ word ∷ words) = option_and_then (command_of word) (parts_of words)
request_of words = None
