-- What lines say fits the parameters and the memories.
use Rattle.std.proofs.Common.{◌≡◌, ℕ, ◌+◌, ◌*◌, ◌^◌, ◌<◌, ◌≤◌, Bool, true, false, cond, nat_lt, ◌&&◌, List, [], ◌∷◌, length, take, drop, Option, Some, None, Result, Ok, Err, refl, sym, ap, subst, ◌∙◌, arith, suc, IfSome, IfOk, MatchOption, codes, option_map, slice_get, All}
use Rattle.std.proofs.lemmas.Bool.{cond_both, and_parts, ltb-false, ltb-true, leb-true}
use Rattle.std.proofs.lemmas.List.{at_drop_more, take_all}
use Rattle.std.proofs.lemmas.List.Elements.{All-cons, All-nil}
use Rattle.std.proofs.lemmas.Option.{slice_get_within, get_or_from_slice_get}
use Rattle.std.specs.List.{AllZip}
use Rattle.std.specs.Char.{digit_value, is_digit}
use Rattle.std.specs.Str.{bytes_eq}
use Rattle.bl_base.specs.declared.names.ValueType.{ValueType}
use Rattle.bl_base.specs.declared.names.ValueType.TheVariants.{I32, I64}
use Rattle.bl_base.specs.declared.start.Patch.{Patch}
use Rattle.bl_base.specs.declared.start.Start.{Start}
use Rattle.bl_base.specs.Fits.{ArgumentFits, AreBytes, LiesIn, PatchFits, Fits}
use Rattle.bl_text.specs.Digits.{decimal_below}
use Rattle.bl_text.proofs.Decimals.{below_limit}
use Rattle.bl_text.specs.Lines.{lines_of}
use Rattle.bl_trace.specs.declared.entry.Entry.{Entry}
use Rattle.bl_trace.specs.declared.entry.Entry.TheVariants.{Argument, Contents}
use Rattle.bl_trace.specs.declared.error.StartError.{StartError}
use Rattle.bl_trace.specs.declared.error.StartError.TheVariants.{Count}
use Rattle.bl_trace.specs.Digits.{byte_of, byte_and, bytes_of_hex}
use Rattle.bl_trace.specs.Lines.{words_of, limit_of, argument_of, lies_in, patch_by, patch_of, entry_by, entry_of}
use Rattle.bl_trace.specs.StartFiles.{answer_by, answer_of, arguments_in, said_before, said}

-- an argument is one of a parameter that is left, a patch lies in its memory
abbrev EntryFits : Option ValueType → List ℕ → Entry → Type 0
EntryFits kind sizes (Argument value) = MatchOption kind ⊥ (λ k. ArgumentFits k value)
EntryFits kind sizes (Contents patch) = PatchFits sizes patch

-- a number below a type's limit is one of the type
of_kind : (kind : ValueType) (value : ℕ) → value < limit_of kind → ArgumentFits kind value
of_kind I32 value below = below
of_kind I64 value below = below

-- an argument read is one of a parameter that is left
argument_fits : (kind : Option ValueType) (sizes : List ℕ) (operands : List (List ℕ)) →
    IfSome (option_map Argument (argument_of kind operands)) (EntryFits kind sizes)
argument_fits (Some kind) sizes (word ∷ []) =
    (elim (decimal_below (limit_of kind) word) as (λ o. IfSome o (λ value. value < limit_of kind) →
    IfSome (option_map Argument o) (EntryFits (Some kind) sizes)) [
      | Some value ↦ λ below. of_kind kind value below
      | None ↦ λ _. tt
    ]) (below_limit (limit_of kind) word)
argument_fits (Some kind) sizes [] = tt
argument_fits (Some kind) sizes (word ∷ next ∷ more) = tt
argument_fits None sizes operands = tt

-- the test of a place says where it lies
inside : (offset count : ℕ) (pages : Option ℕ) → lies_in offset count pages ≡ true → LiesIn offset count pages
inside offset count (Some pages) e = leb-true _ _ e
inside offset count None e = cc

-- what hexadecimal digits write are bytes
byte_small : (high low : ℕ) → IfSome (byte_of high low) (λ byte. byte < 2 ^ 8)
byte_small high low =
    cond_both (is_digit high 16 && is_digit low 16) (Some (16 * digit_value high + digit_value low)) None
    (λ (o : Option ℕ). IfSome o (λ byte. byte < 2 ^ 8))
    (λ e.
    let both = and_parts (is_digit high 16) (is_digit low 16) e in
    omega (arith, ltb-true _ _ both.0, ltb-true _ _ both.1))
    (λ e. tt)

and_bytes : (byte : Option ℕ) (bytes : Option (List ℕ)) → IfSome byte (λ b. b < 2 ^ 8) → IfSome bytes AreBytes → IfSome (byte_and byte bytes) AreBytes
and_bytes (Some byte) (Some bytes) small are = All-cons (λ b. b < 2 ^ 8) byte bytes small are
and_bytes (Some byte) None small are = tt
and_bytes None bytes small are = tt

hex_bytes : (word : List ℕ) → IfSome (bytes_of_hex word) AreBytes
hex_bytes [] = All-nil (λ b. b < 2 ^ 8)
hex_bytes (digit ∷ []) = tt
hex_bytes (high ∷ low ∷ rest) = and_bytes (byte_of high low) (bytes_of_hex rest) (byte_small high low) (hex_bytes rest)

-- a patch read lies in its memory, and is of bytes
patch_by_fits : (kind : Option ValueType) (sizes : List ℕ) (memory offset : Option ℕ) (bytes : Option (List ℕ)) → IfSome bytes AreBytes →
    IfSome (option_map Contents (patch_by sizes memory offset bytes)) (EntryFits kind sizes)
patch_by_fits kind sizes (Some memory) (Some offset) (Some bytes) are =
    cond_both (nat_lt 0 (length bytes) && lies_in offset (length bytes) (slice_get sizes memory))
    (Some (record { memory = memory; offset = offset; bytes = bytes })) None
    (λ (o : Option Patch). IfSome (option_map Contents o) (EntryFits kind sizes))
    (λ e. (inside offset (length bytes) (slice_get sizes memory) (and_parts (nat_lt 0 (length bytes)) _ e).1, are))
    (λ e. tt)
patch_by_fits kind sizes (Some memory) (Some offset) None are = tt
patch_by_fits kind sizes (Some memory) None bytes are = tt
patch_by_fits kind sizes None offset bytes are = tt

-- a patch of words lies in its memory
patch_fits : (kind : Option ValueType) (sizes : List ℕ) (operands : List (List ℕ)) →
    IfSome (option_map Contents (patch_of sizes operands)) (EntryFits kind sizes)
patch_fits kind sizes (memory ∷ offset ∷ bytes ∷ []) =
    patch_by_fits kind sizes (decimal_below (2 ^ 32) memory) (decimal_below (2 ^ 32) offset) (bytes_of_hex bytes) (hex_bytes bytes)
patch_fits kind sizes [] = tt
patch_fits kind sizes (memory ∷ []) = tt
patch_fits kind sizes (memory ∷ offset ∷ []) = tt
patch_fits kind sizes (memory ∷ offset ∷ bytes ∷ next ∷ more) = tt

-- what words say fits
entry_fits : (kind : Option ValueType) (sizes : List ℕ) (words : List (List ℕ)) → IfSome (entry_by kind sizes words) (EntryFits kind sizes)
entry_fits kind sizes [] = tt
entry_fits kind sizes (keyword ∷ operands) =
    let P : Option Entry → Type 0 = λ o. IfSome o (EntryFits kind sizes) in
    cond_both (bytes_eq keyword (codes "arg")) (option_map Argument (argument_of kind operands))
    (cond (bytes_eq keyword (codes "memory")) (option_map Contents (patch_of sizes operands)) None) P
    (λ _. argument_fits kind sizes operands)
    (λ _. cond_both (bytes_eq keyword (codes "memory")) (option_map Contents (patch_of sizes operands)) None P
    (λ _. patch_fits kind sizes operands) (λ _. tt))

-- arguments for parameters from a place on, and patches
record Fitting (params : List ValueType) (sizes : List ℕ) (arguments : ℕ) (start : Start) : Type 0 where
  arguments_fit : AllZip ArgumentFits (take (length start.args) (drop arguments params)) start.args
  patches_fit : All (PatchFits sizes) start.patches

-- one argument more before those of a start
first_fits : (params : List ValueType) (sizes : List ℕ) (arguments value : ℕ) (args : List ℕ) (kind : Option ValueType) →
    kind ≡ slice_get params arguments → EntryFits kind sizes (Argument value) →
    AllZip ArgumentFits (take (length args) (drop (arguments + 1) params)) args →
    AllZip ArgumentFits (take (length (value ∷ args)) (drop arguments params)) (value ∷ args)
first_fits params sizes arguments value args (Some kind) is fits others =
    let inside = slice_get_within params arguments kind (sym is) in
    let rest : drop arguments params ≡ kind ∷ drop (arguments + 1) params =
    at_drop_more (λ xs. xs) params arguments kind inside
    ∙ ap (λ k. k ∷ drop (arguments + 1) params) (get_or_from_slice_get params arguments kind kind (sym is)) in
    subst (λ (xs : List ValueType). AllZip ArgumentFits (take (suc (length args)) xs) (value ∷ args)) (sym rest) (fits, others)
first_fits params sizes arguments value args None is fits others = absurd fits

-- one entry more before those of a start
before_fits : (params : List ValueType) (sizes : List ℕ) (arguments : ℕ) (entry : Entry) (more : Result Start ℕ) →
    EntryFits (slice_get params arguments) sizes entry →
    IfOk more (Fitting params sizes (arguments + arguments_in entry)) →
    IfOk (said_before entry more) (Fitting params sizes arguments)
before_fits params sizes arguments (Argument value) (Ok more) fits others = record {
  arguments_fit = first_fits params sizes arguments value more.args (slice_get params arguments) refl fits others.arguments_fit;
  patches_fit = others.patches_fit;
}
before_fits params sizes arguments (Contents patch) (Ok more) fits others = record {
  arguments_fit = let none : arguments + 0 ≡ arguments = omega arith in
      subst (λ (n : ℕ). AllZip ArgumentFits (take (length more.args) (drop n params)) more.args) none others.arguments_fit;
  patches_fit = All-cons (PatchFits sizes) patch more.patches fits others.patches_fit;
}
before_fits params sizes arguments entry (Err number) fits others = tt

-- what lines say fits, from a place of the parameters on
said_fits : (params : List ValueType) (sizes : List ℕ) (arguments : ℕ) (lines : List (List ℕ)) →
    IfOk (said params sizes arguments lines) (Fitting params sizes arguments)
said_fits params sizes arguments [] = record { arguments_fit = tt; patches_fit = All-nil (PatchFits sizes) }
said_fits params sizes arguments (line ∷ lines) =
    (elim (entry_of params sizes arguments line) as (λ found. IfSome found (EntryFits (slice_get params arguments) sizes) →
    IfOk (elim found as (λ _. Result Start ℕ) [
      | Some entry ↦ said_before entry (said params sizes (arguments + arguments_in entry) lines)
      | None ↦ Err 1
    ]) (Fitting params sizes arguments)) [
      | Some entry ↦ λ fits. before_fits params sizes arguments entry (said params sizes (arguments + arguments_in entry) lines) fits
          (said_fits params sizes (arguments + arguments_in entry) lines)
      | None ↦ λ _. tt
    ]) (entry_fits (slice_get params arguments) sizes (words_of line))

-- a start of which lines say all, with no parameter left, fits
pub fits_whole : (params : List ValueType) (sizes : List ℕ) (lines : List (List ℕ)) (start : Start) →
    said params sizes 0 lines ≡ Ok start → length params ≤ length start.args → Fits params sizes start
fits_whole params sizes lines start is whole =
    let fitting : Fitting params sizes 0 start =
    subst (λ (r : Result Start ℕ). IfOk r (Fitting params sizes 0)) is (said_fits params sizes 0 lines) in
    record {
      arguments = subst (λ (xs : List ValueType). AllZip ArgumentFits xs start.args) (take_all (length start.args) params whole) fitting.arguments_fit;
      patches = fitting.patches_fit;
    }

-- an answer that is a start comes of lines that say it, with no parameter left
told : (given start : Start) (params : List ValueType) (few : Bool) (e : Result Start StartError) → e ≡ cond few (Err (Count (length given.args))) (Ok given) → nat_lt (length given.args) (length params) ≡ few → e ≡ Ok start
    → (given ≡ start) × (length params ≤ length given.args)
told given start params true e made is same = cc
told given start params false e made is same = (cc, ltb-false (length given.args) (length params) is)

of_answer : (params : List ValueType) (r : Result Start ℕ) (start : Start) → answer_by params r ≡ Ok start → IfOk r (λ given. (given ≡ start) × (length params ≤ length given.args))
of_answer params (Err number) start e = tt
of_answer params (Ok given) start e = told given start params (nat_lt (length given.args) (length params)) (answer_by params (Ok given)) refl refl e

-- a start that a file asks for fits
pub answered_fits : (params : List ValueType) (sizes bytes : List ℕ) (start : Start) → answer_of params sizes bytes ≡ Ok start → Fits params sizes start
answered_fits params sizes bytes start e = of_said (said params sizes 0 (lines_of bytes)) refl e
  where
    of_said : (r : Result Start ℕ) → said params sizes 0 (lines_of bytes) ≡ r → answer_by params r ≡ Ok start → Fits params sizes start
    of_said (Err number) is e = cc
    of_said (Ok given) is e =
        let found = of_answer params (Ok given) start e in
        subst (Fits params sizes) found.0 (fits_whole params sizes (lines_of bytes) given is found.1)
