-- What a role asks, as lists, is what it asks as tests; and what is found by the lists is so on that side of the interface.
use Rattle.std.proofs.Common.{◌≡◌, ℕ, ◌<◌, Bool, sym, ap, ◌∙◌, subst}
use Rattle.std.proofs.Math.Path.{fun_ext}
use Rattle.std.specs.List.{All, Contains}
use Rattle.bl_base.specs.declared.names.Role.{Role}
use Rattle.bl_program.specs.Rules.{IsWellFormed}
use Rattle.bl_program.specs.declared.definitions.ProgramParts.{ProgramParts as Program}
use Rattle.bl_graph.specs.Ranges.{variables}
use Rattle.bl_graph.proofs.ChainLemmas.{all_from}
use Rattle.bl_graph.proofs.AskedLists.{in_asked}
use Rattle.bl_transient.specs.Transient.{Asked, PassesUnder}
use Rattle.bl_transient.specs.Verdicts.{IsFirstBad, asked_of}
use Rattle.bl_transient.specs.declared.asked.AskedOf.{AskedOf}
use Rattle.bl_iface.specs.RoleLists.{AreAsked}
use Rattle.bl_iface.specs.InterfaceFunctions.{Matches}
use Rattle.bl_iface.specs.Roles.{PassesAs}
use Rattle.bl_iface.specs.RoleTests.{asked}
use Rattle.bl_iface.specs.declared.iface.Iface.{Iface}
use Rattle.bl_iface.proofs.RoleTestLemmas.{as_from_under, asked_apart, bad_fails, stable_small, transient_small, under_from_as}

-- what asks for the same is the same
alike : (one other : Asked) → ((x : ℕ) → one.transient x ≡ other.transient x) → ((x : ℕ) → one.stable x ≡ other.stable x) → one ≡ other
alike one other transient stable =
    ap (λ (test : ℕ → Bool). record { transient = test; stable = one.stable }) (fun_ext transient)
    ∙ ap (λ (test : ℕ → Bool). record { transient = other.transient; stable = test }) (fun_ext stable)

module _ (role : Role) (iface : Iface) (program : Program) (lists : AskedOf) (are : AreAsked role iface program lists) where
  pub same_asked : asked_of lists ≡ asked role iface program
  same_asked = alike (asked_of lists) (asked role iface program) are.transient are.stable

  -- what the searches need of the lists
  module _ (rules : IsWellFormed program) (matches : Matches program iface) where
    pub transient_within : All (λ x. x < variables program) lists.transient
    transient_within = all_from (λ x. x < variables program) lists.transient (λ x h.
        transient_small iface program rules.rule2 rules.rule3 matches role x (sym (are.transient x) ∙ in_asked lists.transient x h))

    pub stable_within : All (λ x. x < variables program) lists.stable
    stable_within = all_from (λ x. x < variables program) lists.stable (λ x h.
        stable_small iface program rules.rule2 rules.rule3 matches role x (sym (are.stable x) ∙ in_asked lists.stable x h))

    pub lists_apart : (x : ℕ) → Contains lists.transient x → Contains lists.stable x → ⊥
    lists_apart x transient stable =
        asked_apart iface program rules.rule2 rules.rule3 matches role x (sym (are.transient x) ∙ in_asked lists.transient x transient) (sym (are.stable x) ∙ in_asked lists.stable x stable)

  -- ---- the verdict on the program's own marks

  module _ (set own : ℕ → Bool) (same : (s : ℕ) → set s ≡ own s) where
    pub passes_as : PassesUnder (asked_of lists) program set → PassesAs role iface program own
    passes_as passes =
        let by : PassesUnder (asked role iface program) program own =
        subst (λ (a : Asked). PassesUnder a program own) same_asked (subst (λ (t : ℕ → Bool). PassesUnder (asked_of lists) program t) (fun_ext same) passes) in
        (by.0, as_from_under iface program by.0 own role by.1)

    pub fails_as : (position : ℕ) → IsFirstBad (asked_of lists) program set position
        → (PassesAs role iface program own → ⊥) × IsFirstBad (asked role iface program) program own position
    fails_as position first =
        let by : IsFirstBad (asked role iface program) program own position =
        subst (λ (a : Asked). IsFirstBad a program own position) same_asked (subst (λ (t : ℕ → Bool). IsFirstBad (asked_of lists) program t position) (fun_ext same) first) in
        (λ passes. bad_fails (asked role iface program) program own passes.0 position (under_from_as iface program passes.0 own role passes.1) by.bad, by)
