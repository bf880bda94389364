-- The tree of the module is supported.
use Rattle.std.proofs.Common.{◌≡◌, ◌∙◌, ℕ, ◌<◌, ◌≤◌, [], ◌∷◌, None, subst, sym, refl, arith}
use Rattle.std.specs.Prelude.{Result, Ok, Err}
use Rattle.std.proofs.lemmas.Option.{none-some}
use Rattle.bl_wasm.specs.Limits.{first_excess}
use Rattle.bl_wasm.specs.Modules.{Spells}
use Rattle.bl_wasm.specs.Validity.{Typed, IsInteger}
use Rattle.bl_wasm.specs.declared.module.Module.{Module}
use Rattle.bl_decode.specs.DecoderAnswers.{AnswersOf}
use Rattle.bl_decode.specs.declared.error.DecodeError.{DecodeError}
use Rattle.bl_decode.specs.declared.error.DecodeError.TheVariants as error
use Rattle.std.specs.List.{All, range_with_len}
use Rattle.std.proofs.lemmas.List.Elements.{All-cons, All-map, All-nil}
use Rattle.bl_wasm.specs.declared.instruction.Instr.{Instr}
use Rattle.bl_wasm.specs.declared.types.WasmType.TheVariants.{I32}
use Rattle.bl_decode.specs.Supported.{IsIntegerCode, IsIntegerFunction, IsIntegerImport, IsIntegerInstr, IsSupported}
use Rattle.bl_gen.specs.AcceptedModules.{GivesValid, IsAccepted}
use Rattle.bl_gen.specs.GeneratedModule.{made}
use Rattle.bl_gen.proofs.Bodies.{all_below, body_used}
use Rattle.bl_gen.proofs.Pieces.{IsUsed, a_call, a_load, a_loop, an_add, an_end, get, set}
use Rattle.bl_gen.proofs.SpelledModule.{spelled}
use Rattle.bl_gen.proofs.Trees.{body, run, tree, type}
use Rattle.bl_gen.proofs.Typings.{typed, within}

of_integers : (one : Instr) → IsUsed one → IsIntegerInstr one
of_integers _ (get x) = tt
of_integers _ (set x) = tt
of_integers _ a_load = tt
of_integers _ an_add = tt
of_integers _ a_loop = tt
of_integers _ an_end = tt
of_integers _ (a_call before) = tt

one_all : {A : Type 0} (P : A → Type 0) (x : A) → P x → All P (x ∷ [])
one_all P x p = All-cons P x [] p (All-nil P)

type_supported : IsIntegerFunction type
unfolding IsIntegerFunction
type_supported = (one_all IsInteger I32 tt, one_all IsInteger I32 tt)

code_supported : (seed size i : ℕ) → i < size → size ≤ 10000 → IsIntegerCode (body seed i)
unfolding IsIntegerCode
code_supported seed size i less few =
    (one_all (λ run. IsInteger run.kind) run tt, λ k d inside. of_integers _ (body_used seed size i (omega arith) (omega arith) k d inside))

pub supported : (seed size : ℕ) → size ≤ 10000 → IsSupported (tree seed size)
supported seed size few = record {
  types = one_all IsIntegerFunction type type_supported;
  imports = All-nil (λ entry. IsIntegerImport entry.kind);
  globals = All-nil (λ global. IsInteger global.kind.kind × All IsIntegerInstr global.initial);
  start = refl;
  elements = All-nil (λ segment. All IsIntegerInstr segment.offset);
  bodies = All-map IsIntegerCode (body seed) (range_with_len 0 size) (all_below (λ i. IsIntegerCode (body seed i)) size (λ i less. code_supported seed size i less few));
  segments = All-nil (λ segment. All IsIntegerInstr segment.offset);
}

pub accepted : (seed size : ℕ) → 1 ≤ size → size ≤ 10000 → IsAccepted (made seed size)
accepted seed size some few = record {
  tree = tree seed size;
  spelled = spelled seed size few;
  supported = supported seed size few;
  within = within seed size few;
  valid = typed seed size few some;
}

-- ---- what decoding gives

gives : (tree : Module) → IsSupported tree → first_excess tree ≡ None → Typed tree → (answer : Result Module DecodeError) → AnswersOf tree answer → GivesValid answer
gives tree fits few valid (Ok found) h = subst Typed (sym h.0) valid
gives tree fits few valid (Err error.Malformed) h = absurd h
gives tree fits few valid (Err error.Unsupported) h = absurd (h fits)
gives tree fits few valid (Err (error.Limit which value)) h = absurd (none-some (which, value) (sym few ∙ h.1))
gives tree fits few valid (Err error.Memory) h = refl

pub decoded : (seed size : ℕ) (answer : Result Module DecodeError) → 1 ≤ size → size ≤ 10000 → ((tree : Module) → Spells (made seed size) tree → AnswersOf tree answer) → GivesValid answer
decoded seed size answer some few h =
    let made_tree = tree seed size in
    gives made_tree (supported seed size few) (within seed size few) (typed seed size few some) answer (h made_tree (spelled seed size few))
