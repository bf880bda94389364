-- The joined program keeps rules 4 to 8.
use Rattle.std.proofs.Common.{◌≡◌, inl, inr, ℕ, ◌+◌, ◌≤◌, length, Some, sym, ◌∙◌, subst, refl, arith}
use Rattle.std.specs.List.{All}
use Rattle.std.proofs.lemmas.Option.{slice_get_within}
use Rattle.bl_program.specs.Layout.{command_at, Holds}
use Rattle.bl_program.specs.Programs.{IsProgram}
use Rattle.bl_program.specs.Rules.{IsWellFormed, Rule4, Rule5, Rule6, Rule7, Rule8}
use Rattle.bl_program.specs.declared.command.Command.{Command}
use Rattle.bl_program.specs.declared.definitions.ProgramParts.{ProgramParts as Program}
use Rattle.bl_program.proofs.Layouts.{held_by, holds_apart}
use Rattle.bl_iface.specs.JoinedProgram.{HasSameTypes, Renaming, client_numbers, client_shift, joined, library_numbers, library_shift, renamed}
use Rattle.bl_iface.specs.declared.shift.Shift.{Shift}
use Rattle.bl_iface.specs.declared.iface.Iface.{Iface}
use Rattle.bl_iface.proofs.EmbedLemmas.{Embeds, rule4, rule5, rule6, rule7, rule8}
use Rattle.bl_iface.proofs.JoinedReads.{client_reads, library_reads}
use Rattle.bl_iface.proofs.ShiftedPart.{IsFrom, embeds, moved_above}
use Rattle.bl_iface.proofs.PartPlaces.{client_split, client_stands, command_of, library_split, library_stands}

-- a command keeps the rules on commands
pub record Keeps (program : Program) (function position : ℕ) (command : Command) : Type 0 where
  pub rule4 : Rule4 program function command
  pub rule5 : Rule5 program function position command
  pub rule6 : Rule6 program function command
  pub rule7 : Rule7 program function position command
  pub rule8 : Rule8 program function position command

-- a command of a part keeps them in the whole
from_part : (part whole : Program) (shift : Shift) (n : Renaming) → Embeds part whole n (λ f. shift.functions + f) → IsProgram part → IsWellFormed part
    → ((p : ℕ) → 7 ≤ p → n.position p ≡ p + shift.commands)
    → (f p : ℕ) (c : Command) → Holds whole f p → IsFrom part shift n p c → Keeps whole f p c
from_part part whole shift n e facts well above f p c holds from =
    let start : ℕ = from.start in
    let held = held_by part start facts from.behind (slice_get_within part.commands start from.command from.stands) in
    let there : n.position start ≡ p = above start from.behind ∙ sym from.moved in
    let owned : shift.functions + held.0 ≡ f =
    holds_apart whole (shift.functions + held.0) f p (subst (Holds whole (shift.functions + held.0)) there (e.holds held.0 start held.1)) holds in
    let four = well.rule4 start held.0 from.command held.1 from.stands in
    let six = well.rule6 start held.0 from.command held.1 from.stands in
    let kept : Keeps whole (shift.functions + held.0) (n.position start) (renamed n from.command) = record {
      rule4 = rule4 part whole n _ e held.0 from.command held.1.exists four;
      rule5 = rule5 part whole n _ e held.0 start from.command held.1 (well.rule5 start held.0 from.command held.1 from.stands);
      rule6 = rule6 part whole n _ e held.0 from.command held.1.exists six;
      rule7 = rule7 part whole n _ e held.0 start from.command held.1 four six (well.rule7 start held.0 from.command held.1 from.stands);
      rule8 = rule8 part whole n _ e held.0 start from.command held.1 four (well.rule8 start held.0 from.command held.1 from.stands);
    } in
    subst (λ k. Keeps whole k p c) owned
    (subst (λ k. Keeps whole (shift.functions + held.0) k c) there
    (subst (Keeps whole (shift.functions + held.0) (n.position start)) (sym from.is) kept))

module _ (client library : Program) (iface : Iface) (facts : IsProgram client) (well : IsWellFormed client) (other_facts : IsProgram library) (other_well : IsWellFormed library)
    (same_types : All (HasSameTypes client library) iface.functions) where
  pub client_embeds : Embeds client (joined client library iface) (client_numbers iface client library) (λ f. 0 + f)
  client_embeds = embeds client library (joined client library iface) (client_shift library) (library_shift client) (client_numbers iface client library) (library_numbers client library)
      (client_stands client library iface facts other_facts) (library_stands client library iface facts other_facts) (client_split client library iface facts other_facts)
      facts well other_facts other_well (λ p. refl) (λ p. refl) (λ x. refl) (λ k. refl) (client_reads client library iface facts well other_facts other_well same_types)

  pub library_embeds : Embeds library (joined client library iface) (library_numbers client library) (λ f. length client.functions + f)
  library_embeds = embeds library client (joined client library iface) (library_shift client) (client_shift library) (library_numbers client library) (client_numbers iface client library)
      (library_stands client library iface facts other_facts) (client_stands client library iface facts other_facts) (library_split client library iface facts other_facts)
      other_facts other_well facts well (λ p. refl) (λ p. refl) (λ x. refl) (λ k. refl) (library_reads client library iface facts well other_facts other_well same_types)

  pub keeps : (f p : ℕ) (c : Command) → Holds (joined client library iface) f p → command_at (joined client library iface) p ≡ Some c → Keeps (joined client library iface) f p c
  keeps f p c holds stands = elim (command_of client library iface facts other_facts p c stands) as (λ _. Keeps (joined client library iface) f p c) [
    | inl trap ↦ let lt = trap.0 in let from = holds.from in absurd (omega arith)
    | inr some ↦ elim some as (λ _. Keeps (joined client library iface) f p c) [
      | inl mine ↦ from_part client (joined client library iface) (client_shift library) (client_numbers iface client library) client_embeds facts well (moved_above (client_shift library)) f p c holds mine
      | inr its ↦ from_part library (joined client library iface) (library_shift client) (library_numbers client library) library_embeds other_facts other_well (moved_above (library_shift client)) f p c holds its
    ]
  ]
