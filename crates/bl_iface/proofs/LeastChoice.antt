-- The least choice on one side of an interface.
use Rattle.std.proofs.Common.{inl, inr, ℕ, Bool}
use Rattle.bl_base.proofs.BoolLemmas.{never_both}
use Rattle.bl_base.specs.declared.names.Role.{Role}
use Rattle.bl_program.specs.declared.definitions.ProgramParts.{ProgramParts as Program}
use Rattle.bl_program.specs.Rules.{IsWellFormed}
use Rattle.bl_cut.specs.Least.{LeastUnder}
use Rattle.bl_cut.proofs.LeastExists.{some_least}
use Rattle.bl_graph.specs.Ranges.{AreInRange}
use Rattle.bl_transient.specs.Transient.{PassesUnder}
use Rattle.bl_iface.specs.InterfaceFunctions.{Matches}
use Rattle.bl_iface.specs.Roles.{PassesAs}
use Rattle.bl_iface.specs.RoleTests.{IsFirstGiven, IsGiven, LeastAs, asked}
use Rattle.bl_iface.specs.declared.iface.Iface.{Iface}
use Rattle.bl_iface.proofs.RoleTestLemmas.{as_from_under, asked_apart, transient_small, under_from_as}

module _ (role : Role) (iface : Iface) (program : Program) where
  -- a set passes on that side of the interface, where it passes under what the role asks
  to_as : (set : ℕ → Bool) → PassesUnder (asked role iface program) program set → PassesAs role iface program set
  to_as set h = (h.0, as_from_under iface program h.0 set role h.1)

  to_under : (set : ℕ → Bool) → PassesAs role iface program set → PassesUnder (asked role iface program) program set
  to_under set h = (h.0, under_from_as iface program h.0 set role h.1)

  -- so what is least among the one is least among the other
  pub as_least : (set : ℕ → Bool) → LeastUnder (asked role iface program) program set → LeastAs role iface program set
  as_least set h = record {
    sites = h.sites;
    passes = to_as set h.passes;
    lightest = λ other sites passes. h.lightest other sites (to_under other passes);
    nearest = λ other sites passes. h.nearest other sites (to_under other passes);
  }

  pub least_as : (set : ℕ → Bool) → LeastAs role iface program set → LeastUnder (asked role iface program) program set
  least_as set h = record {
    sites = h.sites;
    passes = to_under set h.passes;
    lightest = λ other sites passes. h.lightest other sites (to_as other passes);
    nearest = λ other sites passes. h.nearest other sites (to_as other passes);
  }

  -- no set passes where a sink reads what is given
  pub none_given : (set : ℕ → Bool) (position : ℕ) → LeastUnder (asked role iface program) program set → IsFirstGiven (asked role iface program) program position → ⊥
  none_given set position h first =
      let flows = h.passes.1 in
      let x : ℕ = first.given.0 in
      never_both (h.passes.0 x) (flows.assigns.given x first.given.2) (flows.sinks position x first.given.1)

  -- and where none does, some set is least
  pub some_choice : AreInRange program → IsWellFormed program → Matches program iface → ((position : ℕ) → IsGiven (asked role iface program) program position → ⊥)
      → (set : ℕ → Bool) × LeastUnder (asked role iface program) program set
  some_choice is rules matches none =
      some_least (asked role iface program) program is (transient_small iface program rules.rule2 rules.rule3 matches role) (λ x transient barred.
      elim barred as (λ _. ⊥) [
        | inl sunk ↦ none sunk.0 (x, sunk.1, transient)
        | inr stable ↦ asked_apart iface program rules.rule2 rules.rule3 matches role x transient stable
      ])
