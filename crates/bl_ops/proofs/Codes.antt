-- A code taken to what has it, and back.
use Rattle.std.proofs.Common.{◌≡◌, ℕ, Bool, true, false, cond, List, [], ◌∷◌, refl, sym, subst, ap}
use Rattle.std.specs.Prelude.{◌==◌, find, is_some, None, Some}
use Rattle.std.proofs.lemmas.Bool.{false≢true}
use Rattle.std.proofs.lemmas.Bool.Decides.{Decides-eqb}
use Rattle.std.proofs.lemmas.Option.{same_Some}
use Rattle.bl_ops.specs.Access.{access_code as access_code_of, access_kind, kinds}
use Rattle.bl_ops.specs.OperatorTable.{operator_code, image_code_of, image_operator_of, operator_of, operators}
use Rattle.bl_ops.specs.declared.access.AccessKind.{AccessKind}
use Rattle.bl_ops.specs.declared.op.Op.{Op}
use Rattle.bl_ops.specs.declared.op.Op.TheVariants.{Move, Select, Outside}

no_some : {X : Type 0} {x : X} → None ≡ Some x → ⊥
no_some e = false≢true (ap is_some e)

-- what a search by a number finds has that number
found : {X : Type 0} (number : X → ℕ) (xs : List X) (code : ℕ) (x : X) → find (λ y. number y == code) xs ≡ Some x → number x ≡ code
found number [] code x e = absurd (no_some e)
found {X} number (y ∷ ys) code x e = by (number y == code) refl (found number ys code x) e
  where
    by : (test : Bool) → (number y == code) ≡ test → (find (λ z. number z == code) ys ≡ Some x → number x ≡ code)
        → cond test (Some y) (find (λ z. number z == code) ys) ≡ Some x → number x ≡ code
    by true is rest e = subst (λ z. number z ≡ code) (same_Some y x e) ((Decides-eqb (number y) code).0 is)
    by false is rest e = rest e

pub access_code_returns : (kind : AccessKind) (code : ℕ) → access_kind code ≡ Some kind → access_code_of kind ≡ code
access_code_returns kind code e = found access_code_of kinds code kind e

pub image_code_returns : (op : Op) (code : ℕ) → image_operator_of code ≡ Some op → image_code_of op ≡ code
image_code_returns op code e = found image_code_of (Move ∷ Select ∷ Outside ∷ operators) code op e

-- an operator that is found among the integer operators is one
is_integer : (op : Op) → operator_of (image_code_of op) ≡ Some op → operator_code op ≡ Some (image_code_of op)
is_integer op = elim op as (λ op. operator_of (image_code_of op) ≡ Some op → operator_code op ≡ Some (image_code_of op))
    [ Move ↦ λ e. absurd (no_some e) | Select ↦ λ e. absurd (no_some e) | Outside ↦ λ e. absurd (no_some e) | _ ↦ λ e. refl ]

pub code_returns : (op : Op) (code : ℕ) → operator_of code ≡ Some op → operator_code op ≡ Some code
code_returns op code e =
    let same : image_code_of op ≡ code = found image_code_of operators code op e in
    subst (λ k. operator_code op ≡ Some k) same (is_integer op (subst (λ k. operator_of k ≡ Some op) (sym same) e))
