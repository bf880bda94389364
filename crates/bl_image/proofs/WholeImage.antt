-- The whole image, from its parts.
use Rattle.std.proofs.Common.{◌≡◌, ℕ, ◌<◌, suc, List, [], ◌∷◌, ◌++◌, length, drop, slice_get, append_assoc, ap, ap₂, sym, ◌∙◌, refl, subst, arith, Some, Result, length-append}
use Rattle.std.specs.Result.{IsErrAnd}
use Rattle.std.proofs.lemmas.Result.{err_from_is_err_and}
use Rattle.std.proofs.lemmas.Option.{slice_get_within}
use Rattle.bl_base.specs.Trap.{trap_number}
use Rattle.bl_base.specs.declared.trap.Trap.{Trap as TrapKind}
use Rattle.bl_base.specs.declared.trap.Trap.TheVariants.{Unreachable, DivideByZero, Overflow, OutOfBounds, UndefinedElement, UninitializedElement, TypeMismatch, StackExhausted}
use Rattle.bl_program.specs.Programs.{IsProgram}
use Rattle.bl_program.specs.declared.command.Command.{Command}
use Rattle.bl_program.specs.declared.command.Command.TheVariants.{Trap}
use Rattle.bl_program.specs.declared.definitions.Demand.{Demand}
use Rattle.bl_program.specs.declared.definitions.FunctionDef.{FunctionDef}
use Rattle.bl_program.specs.declared.definitions.GlobalDef.{GlobalDef}
use Rattle.bl_program.specs.declared.definitions.MemoryDef.{MemoryDef}
use Rattle.bl_program.specs.declared.definitions.ProgramParts.{ProgramParts as Program}
use Rattle.bl_program.specs.declared.definitions.SiteWeight.{SiteWeight}
use Rattle.bl_image.specs.declared.definition.Exports.{Exports}
use Rattle.bl_image.specs.declared.rising.Weights.{Weights}
use Rattle.bl_image.specs.declared.error.Malformed.{Malformed}
use Rattle.bl_image.specs.declared.error.ReadError.{ReadError}
use Rattle.bl_image.specs.declared.error.ReadError.TheVariants.{NotAnImage, Memory}
use Rattle.bl_leb.specs.Grammar.{Spellings, ◌⨾◌, byte, given}
use Rattle.bl_format.specs.Grammar.{each, vec}
use Rattle.bl_format.specs.Image.{magic, header, version, definitions, additions, weights, demand, command, Image}
use Rattle.bl_image.specs.ReaderAnswers.{Begins, NoneBegins, Finds, Fronts, ReadsAll, ReadsFront, Refuses, RefusesAll, RefusesProgram, additions_of, traps}
use Rattle.bl_image.proofs.ReaderLemmas.{begins_via, none_via, none_unless, finds_as}

-- ---- the magic and the version

header_begins : (bytes r : List ℕ) (v : ℕ) → bytes ≡ magic ++ drop 4 bytes → Begins byte (drop 4 bytes) v r → Begins header bytes v r
header_begins bytes r v front p = record {
  front = magic ++ p.front;
  whole = front ∙ ap (λ t. magic ++ t) p.whole ∙ sym (append_assoc magic p.front r);
  spelled = record { front = magic; rest = p.front; whole = refl; first = refl; second = p.spelled };
  only = λ y other more h e.
      let whole : bytes ≡ magic ++ (h.rest ++ more) = e ∙ ap (λ t. t ++ more) (h.whole ∙ ap (λ t. t ++ h.rest) h.first) ∙ append_assoc magic h.rest more in
      p.only y h.rest more h.second (ap (drop 4) whole);
}

header_none : (bytes : List ℕ) → NoneBegins byte (drop 4 bytes) → NoneBegins header bytes
header_none bytes p = record {
  none = λ y other more h e.
      let whole : bytes ≡ magic ++ (h.rest ++ more) = e ∙ ap (λ t. t ++ more) (h.whole ∙ ap (λ t. t ++ h.rest) h.first) ∙ append_assoc magic h.rest more in
      p.none y h.rest more h.second (ap (drop 4) whole);
}

pub finds_header : (bytes : List ℕ) (r : Result (ℕ × ℕ) Malformed) → bytes ≡ magic ++ drop 4 bytes → Finds byte bytes 4 r → Finds header bytes 0 r
finds_header bytes r front h = finds_as byte header bytes 4 0 r (λ v m p. header_begins bytes m v front p) (header_none bytes) h

-- ---- demands and weights

abbrev pub Listed : Type 0
Listed = List Demand × Weights

abbrev pub listed : Listed → Spellings
listed both = vec demand both.0 ⨾ weights both.1.0

to_additions : (ds : List Demand) (ws : List SiteWeight) → version ds ws ≡ 2 → (t : List ℕ) → (vec demand ds ⨾ weights ws) t → additions ds ws t
to_additions [] [] is t h = absurd (omega arith)
to_additions [] (w ∷ ws) is t h = h
to_additions (d ∷ ds) ws is t h = h

from_additions : (ds : List Demand) (ws : List SiteWeight) → version ds ws ≡ 2 → (t : List ℕ) → additions ds ws t → (vec demand ds ⨾ weights ws) t
from_additions [] [] is t h = absurd (omega arith)
from_additions [] (w ∷ ws) is t h = h
from_additions (d ∷ ds) ws is t h = h

pub listed_found : (s r : List ℕ) (both : Listed) → version both.0 both.1.0 ≡ 2 → Begins listed s both r → Begins (additions_of 2) s both r
listed_found s r both is p = begins_via listed (additions_of 2) s r both both (λ t h. (is, to_additions both.0 both.1.0 is t h)) (λ y t h. (y, from_additions y.0 y.1.0 h.0 t h.1, λ e. e)) p

pub listed_none : (s : List ℕ) → NoneBegins listed s → NoneBegins (additions_of 2) s
listed_none s p = none_via listed (additions_of 2) s (λ y t h. (y, from_additions y.0 y.1.0 h.0 t h.1)) p

pub listed_wrong : (s r : List ℕ) (both : Listed) → (version both.0 both.1.0 ≡ 2 → ⊥) → Begins listed s both r → NoneBegins (additions_of 2) s
listed_wrong s r both never p = none_via (λ y. given (version y.0 y.1.0 ≡ 2) (listed y)) (additions_of 2) s (λ y t h. (y, (h.0, from_additions y.0 y.1.0 h.0 t h.1))) (none_unless listed (λ y. version y.0 y.1.0 ≡ 2) s r both never p)

-- ---- the traps

-- a list that begins with some elements
begins_with : {A : Type 0} (front xs : List A) → ((i : ℕ) (a : A) → slice_get front i ≡ Some a → slice_get xs i ≡ Some a) → xs ≡ front ++ drop (length front) xs
begins_with [] xs same = refl
begins_with (a ∷ front) [] same = absurd (let e = same 0 a refl in cc)
begins_with (a ∷ front) (x ∷ xs) same =
    let head : x ≡ a = let e = same 0 a refl in cc in
    let tail = begins_with front xs (λ i b e. same (suc i) b e) in
    ap₂ (λ y ys. y ∷ ys) head tail

-- the trap of a kind stands at its number
trap_at : (kind : TrapKind) → trap_number kind < 7 → slice_get traps (trap_number kind) ≡ Some (Trap kind)
trap_at Unreachable less = refl
trap_at DivideByZero less = refl
trap_at Overflow less = refl
trap_at OutOfBounds less = refl
trap_at UndefinedElement less = refl
trap_at UninitializedElement less = refl
trap_at TypeMismatch less = refl
trap_at StackExhausted less = absurd (omega arith)

trap_stands : (program : Program) → IsProgram program → (i : ℕ) (a : Command) → slice_get traps i ≡ Some a → slice_get program.commands i ≡ Some a
trap_stands program is i a e =
    let less : i < 7 = slice_get_within traps i a e in
    let k = is.traps i less in
    let here = trap_at k.0 (subst (λ (j : ℕ). j < 7) (sym k.1) less) in
    k.2 ∙ sym (subst (λ (j : ℕ). slice_get traps j ≡ Some (Trap k.0)) k.1 here) ∙ e

pub traps_first : (program : Program) → IsProgram program → program.commands ≡ traps ++ drop 7 program.commands
traps_first program is = begins_with traps program.commands (trap_stands program is)

-- ---- the whole

abbrev pub Definitions : Type 0
Definitions = List GlobalDef × (List MemoryDef × (List FunctionDef × Exports))

abbrev pub program_with : Definitions → Listed → List Command → Program
program_with d l commands = record { globals = d.0; memories = d.1.0; functions = d.1.1.0; exports = d.1.1.1.0; commands = commands; demands = l.0; weights = l.1.0 }

abbrev pub defined : Definitions → Spellings
defined d = definitions (program_with d ([], record { 0 = [] }) [])

abbrev definitions_of : Program → Definitions
definitions_of q = (q.globals, (q.memories, (q.functions, record { 0 = q.exports })))

abbrev listed_of : Program → Listed
listed_of q = (q.demands, record { 0 = q.weights })

pub no_header : (bytes : List ℕ) → NoneBegins header bytes → (program : Program) → Image program bytes → ⊥
no_header bytes p q h = let i = h.spelled in p.none (version q.demands q.weights) i.front i.rest i.first i.whole

pub no_definitions : (bytes m : List ℕ) (v : ℕ) → Begins header bytes v m → NoneBegins defined m → (program : Program) → Image program bytes → ⊥
no_definitions bytes m v first p q h =
    let i = h.spelled in
    let one = first.only (version q.demands q.weights) i.front i.rest i.first i.whole in
    p.none (definitions_of q) i.second.front i.second.rest i.second.first (sym one.1 ∙ i.second.whole)

pub no_additions : (bytes m n : List ℕ) (v : ℕ) (d : Definitions) → Begins header bytes v m → Begins defined m d n → NoneBegins (additions_of v) n → (program : Program) → Image program bytes → ⊥
no_additions bytes m n v d first second p q h =
    let i = h.spelled in
    let one = first.only (version q.demands q.weights) i.front i.rest i.first i.whole in
    let two = second.only (definitions_of q) i.second.front i.second.rest i.second.first (sym one.1 ∙ i.second.whole) in
    p.none (listed_of q) i.second.second.front i.second.second.rest (one.0, i.second.second.first) (sym two.1 ∙ i.second.second.whole)

-- all that stands in front of the commands
pub fronts_found : (bytes m n o : List ℕ) (v : ℕ) (d : Definitions) (l : Listed) → Begins header bytes v m → Begins defined m d n → Begins (additions_of v) n l o → Fronts bytes (program_with d l traps) o
fronts_found bytes m n o v d l first second third = record {
  commands = refl;
  joins = λ xs h.
      record {
        front = first.front;
        rest = m;
        whole = first.whole;
        first = subst (λ k. header k first.front) (sym third.spelled.0) first.spelled;
        second = record {
          front = second.front;
          rest = n;
          whole = second.whole;
          first = second.spelled;
          second = record { front = third.front; rest = o; whole = third.whole; first = third.spelled.1; second = h };
        };
      };
  splits = λ q h.
      let i = h.spelled in
      let one = first.only (version q.demands q.weights) i.front i.rest i.first i.whole in
      let two = second.only (definitions_of q) i.second.front i.second.rest i.second.first (sym one.1 ∙ i.second.whole) in
      let three = third.only (listed_of q) i.second.second.front i.second.second.rest (one.0, i.second.second.first) (sym two.1 ∙ i.second.second.whole) in (
        drop 7 q.commands,
        ap (λ e. program_with e (listed_of q) q.commands) two.0 ∙ ap (λ e. program_with d e q.commands) three.0 ∙ ap (λ e. program_with d l e) (traps_first q h.is_program),
        subst (each command (drop 7 q.commands)) three.1 i.second.second.second,
      );
}

-- ---- where nothing is read

-- a `?` hands on why a part of a program wasn't read
pub front_refused : {A : Type 0} (F : A → Spellings) (bytes : List ℕ) (i : ℕ) (r : Result (Program × ℕ) ReadError) (e : ReadError) → IsErrAnd r (λ y. y ≡ e) → (NoneBegins F (drop i bytes) → (program : Program) → Image program bytes → ⊥) → Refuses F bytes i e → ReadsFront bytes r
front_refused F bytes i r e gives along h = let p = err_from_is_err_and r gives in rw (p.1, p.2) (refused e h)
  where
    refused : (k : ReadError) → Refuses F bytes i k → RefusesProgram bytes k
    refused NotAnImage h = along h
    refused Memory h = tt

pub all_refused : (start : List Command) (most : ℕ) (s bytes : List ℕ) (i : ℕ) (r : Result (List Command) ReadError) (e : ReadError) → IsErrAnd r (λ y. y ≡ e) → (NoneBegins command (drop i bytes) → (xs : List Command) → each command xs s → ⊥) → Refuses command bytes i e → ReadsAll command start most s r
all_refused start most s bytes i r e gives along h = let p = err_from_is_err_and r gives in rw (p.1, p.2) (refused e h)
  where
    refused : (k : ReadError) → Refuses command bytes i k → RefusesAll command most s k
    refused NotAnImage h = λ xs few spelled. along h xs spelled
    refused Memory h = tt

-- a command has a byte
pub never_empty : (x : Command) → command x [] → ⊥
never_empty x h = omega (arith, ap length h.whole, length-append h.front h.rest, ap length h.first)
