-- Variables of a program are below the number of all.
use Rattle.std.proofs.Common.{inl, inr, ℕ, suc, ◌<◌, length, arith}
use Rattle.bl_program.specs.Layout.{first_of, statics}
use Rattle.bl_program.specs.Rules.{IsOwn, IsReadable, IsWritable, Rule2}
use Rattle.bl_program.specs.declared.definitions.ProgramParts.{ProgramParts as Program}
use Rattle.bl_program.proofs.Layouts.{first_below, own_exists, result_own}

module _ (program : Program) (rule : Rule2 program) where
  pub own_small : (f x : ℕ) → IsOwn program f x → x < first_of program (length program.functions)
  own_small f x own =
      let high = own.1 in
      let lt = own_exists program f x own in
      let up = first_below program (suc f) (omega arith) in
      omega arith

  pub static_small : (x : ℕ) → x < statics program → x < first_of program (length program.functions)
  static_small x lt = omega arith

  pub writable_small : (f x : ℕ) → IsWritable program f x → x < first_of program (length program.functions)
  writable_small f x h = elim h as (λ _. x < first_of program (length program.functions)) [ inl low ↦ static_small x low | inr local ↦ own_small f x local.0 ]

  pub readable_small : (f x : ℕ) → IsReadable program f x → x < first_of program (length program.functions)
  readable_small f x h = elim h as (λ _. x < first_of program (length program.functions)) [
    | inl low ↦ static_small x low
    | inr rest ↦ elim rest as (λ _. x < first_of program (length program.functions)) [
      | inl own ↦ own_small f x own
      | inr any ↦ own_small any.0 x (result_own program any.0 x rule any.1)
    ]
  ]
