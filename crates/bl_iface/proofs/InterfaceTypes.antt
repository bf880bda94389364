-- Functions of the interface that have the same types in both programs, one by one.
use Rattle.std.proofs.Common.{◌≡◌, ℕ, ◌+◌, ◌<◌, ◌≤◌, List, length, take, get_or, Some, slice_get, sym, ap, ◌∙◌, arith}
use Rattle.std.specs.Prelude.{option_map}
use Rattle.std.specs.List.{All}
use Rattle.std.proofs.lemmas.Option.{same_Some, slice_get-get_or, slice_get-map}
use Rattle.bl_base.proofs.Lists.{within_get}
use Rattle.bl_base.specs.declared.names.ValueType.{ValueType}
use Rattle.bl_program.specs.declared.definitions.FunctionDef.{FunctionDef}
use Rattle.bl_program.specs.declared.definitions.ParamDef.{ParamDef}
use Rattle.bl_program.specs.declared.definitions.ProgramParts.{ProgramParts as Program}
use Rattle.bl_iface.specs.Answers.{IsFirstWithout}
use Rattle.bl_iface.specs.JoinedProgram.{HasSameTypes, kinds, types_of}
use Rattle.bl_iface.specs.InterfaceFunctions.{AreTargets}
use Rattle.bl_iface.specs.declared.iface.FnIface.{FnIface}
use Rattle.bl_iface.specs.declared.iface.Iface.{Iface}
use Rattle.bl_iface.proofs.ListTests.{all_step, all_done}

-- where the types of parameters are the same, they are at each place
pub kind_at : (xs ys : List ParamDef) (i : ℕ) (d e : ParamDef) → i < length xs → i < length ys → kinds xs ≡ kinds ys → (get_or xs i d).kind ≡ (get_or ys i e).kind
kind_at xs ys i d e lt also same =
    let first : slice_get (kinds xs) i ≡ Some (get_or xs i d).kind = slice_get-map (λ (p : ParamDef). p.kind) xs i ∙ ap (option_map (λ (p : ParamDef). p.kind)) (slice_get-get_or xs i d lt) in
    let second : slice_get (kinds ys) i ≡ Some (get_or ys i e).kind = slice_get-map (λ (p : ParamDef). p.kind) ys i ∙ ap (option_map (λ (p : ParamDef). p.kind)) (slice_get-get_or ys i e also) in
    same_Some _ _ (sym first ∙ ap (λ (l : List ValueType). slice_get l i) same ∙ second)

abbrev Alike : FunctionDef → FunctionDef → Type 0
Alike one other = (kinds one.params ≡ kinds other.params) × (one.results ≡ other.results)

abbrev types : FunctionDef → List ValueType × List ValueType
types f = (kinds f.params, f.results)

module _ (client library : Program) (iface : Iface) (ours theirs : List ℕ) (index : ℕ) (one other : FunctionDef) (first : AreTargets client iface ours) (second : AreTargets library iface theirs)
    (lt : index < length ours) (here : slice_get client.functions (get_or ours index 0) ≡ Some one) (there : slice_get library.functions (get_or theirs index 0) ≡ Some other) where
  item : (x : FnIface) × (slice_get iface.functions index ≡ Some x)
  item = within_get iface.functions index (let many = first.many in omega arith)

  same : Alike one other → HasSameTypes client library item.0
  same alike f g is also =
      let mine : get_or ours index 0 ≡ f = same_Some _ _ (sym (first.each index item.0 item.1) ∙ is) in
      let its : get_or theirs index 0 ≡ g = same_Some _ _ (sym (second.each index item.0 item.1) ∙ also) in
      ap (types_of client) (sym mine) ∙ ap (option_map types) here ∙ ap (λ (k : List ValueType). Some (k, one.results)) alike.0
      ∙ ap (λ (r : List ValueType). Some (kinds other.params, r)) alike.1 ∙ sym (ap (option_map types) there) ∙ ap (types_of library) its

  apart : (Alike one other → ⊥) → HasSameTypes client library item.0 → ⊥
  apart unlike h =
      let both : Some (types one) ≡ Some (types other) =
      sym (ap (option_map types) here) ∙ h (get_or ours index 0) (get_or theirs index 0) (first.each index item.0 item.1) (second.each index item.0 item.1) ∙ ap (option_map types) there in
      let pair : types one ≡ types other = same_Some (types one) (types other) both in
      unlike (ap (λ (t : List ValueType × List ValueType). t.0) pair, ap (λ (t : List ValueType × List ValueType). t.1) pair)

  at_index : item.0 ≡ get_or iface.functions index item.0
  at_index = let many = first.many in same_Some _ _ (sym item.1 ∙ slice_get-get_or iface.functions index item.0 (omega arith))

  pub alike_more : Alike one other → All (HasSameTypes client library) (take index iface.functions) → All (HasSameTypes client library) (take (index + 1) iface.functions)
  alike_more alike so_far = let many = first.many in all_step (HasSameTypes client library) iface.functions index item.0 (omega arith) at_index so_far (same alike)

  pub unlike_here : (Alike one other → ⊥) → All (HasSameTypes client library) (take index iface.functions) → IsFirstWithout (HasSameTypes client library) iface.functions index
  unlike_here unlike so_far = record { item = item.0; stands = item.1; without = apart unlike; before = so_far }

pub alike_all : (client library : Program) (iface : Iface) (ours : List ℕ) (index : ℕ) → AreTargets client iface ours → length ours ≤ index
    → All (HasSameTypes client library) (take index iface.functions) → All (HasSameTypes client library) iface.functions
alike_all client library iface ours index are past so_far = let many = are.many in all_done (HasSameTypes client library) iface.functions index (omega arith) so_far
