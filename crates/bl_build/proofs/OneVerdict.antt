-- A program, a set of its sites and a certificate have one verdict each; a program is hardened in one way but for what shows it.
use Rattle.std.proofs.Common.{◌≡◌, ℕ, suc, Bool, true, false, List, [], ◌∷◌, length, Some, refl, ap, sym, ◌∙◌, subst, arith}
use Rattle.std.specs.Prelude.{◌↔◌, IsTrue}
use Rattle.std.proofs.Math.Path.{fun_ext}
use Rattle.bl_base.specs.declared.names.Flow.{Flow}
use Rattle.bl_base.specs.declared.names.Flow.TheVariants.{Stable, Transient}
use Rattle.bl_base.proofs.BoolLemmas.{never_both}
use Rattle.bl_program.specs.declared.definitions.ProgramParts.{ProgramParts as Program}
use Rattle.bl_format.specs.Image.{Image}
use Rattle.bl_image.proofs.Prefixes.{one_image}
use Rattle.bl_graph.specs.Ranges.{AreInRange}
use Rattle.bl_graph.specs.declared.certificate.Certificate.{Certificate}
use Rattle.bl_transient.specs.Verdicts.{IsFirstSink, IsLeastTyping, Judges, is_transient, typing_of}
use Rattle.bl_transient.specs.declared.transient.FlowVerdict.{FlowVerdict}
use Rattle.bl_transient.specs.declared.transient.FlowVerdict.TheVariants as flow
use Rattle.bl_ct.specs.declared.verdict.CtVerdict.{CtVerdict}
use Rattle.bl_ct.specs.Verdicts.{Judges as JudgesLabels}
use Rattle.bl_transient.specs.Transient.{nothing}
use Rattle.bl_cut.specs.Marks.{protected}
use Rattle.bl_cut.proofs.LeastSites.{only_one}
use Rattle.bl_witness.specs.Verdicts.{Checks}
use Rattle.bl_witness.specs.declared.verdict.CertVerdict.{CertVerdict}
use Rattle.bl_witness.specs.declared.verdict.CertVerdict.TheVariants as rules
use Rattle.bl_witness.proofs.CertificateVerdicts.{broken, broken_once}
use Rattle.bl_build.specs.HardenStage.{Hardened, IsHardened, IsYes}
use Rattle.bl_build.proofs.ProgramVerdicts.{labelled_yes, yes_labelled}

-- a certificate has one verdict
pub one_rules : (program : Program) (certificate : Certificate) (v w : CertVerdict) → Checks program certificate v → Checks program certificate w → v ≡ w
one_rules program certificate rules.Yes rules.Yes a b = refl
one_rules program certificate rules.Yes (rules.No rule index) a b = absurd (broken program certificate rule index b a)
one_rules program certificate (rules.No rule index) rules.Yes a b = absurd (broken program certificate rule index a b)
one_rules program certificate (rules.No rule index) (rules.No other place) a b =
    let same = broken_once program certificate rule other index place a b in
    ap (λ r. rules.No r index) same.0 ∙ ap (λ i. rules.No other i) same.1

-- flow types of which the same ones are transient are the same
same_type : (a b : Flow) → (IsTrue (is_transient (Some a)) ↔ IsTrue (is_transient (Some b))) → a ≡ b
same_type Stable Stable e = refl
same_type Stable Transient e = let clash : false ≡ true = e.1 refl in cc
same_type Transient Stable e = let clash : false ≡ true = e.0 refl in cc
same_type Transient Transient e = refl

same_types : (a b : List Flow) → length a ≡ length b → ((x : ℕ) → IsTrue (typing_of a x) ↔ IsTrue (typing_of b x)) → a ≡ b
same_types [] [] long e = refl
same_types [] (y ∷ b) long e = absurd (omega (arith, long))
same_types (x ∷ a) [] long e = absurd (omega (arith, long))
same_types (x ∷ a) (y ∷ b) long e =
    let first = same_type x y (e 0) in
    let rest = same_types a b (omega (arith, long)) (λ n. e (suc n)) in
    λ i. first i ∷ rest i

module _ (program : Program) (set : ℕ → Bool) where
  one_typing : (a b : List Flow) → IsLeastTyping program set a → IsLeastTyping program set b → a ≡ b
  one_typing a b h k = same_types a b (h.places ∙ sym k.places) (λ x. (λ t. (k.trans x).1 ((h.trans x).0 t), λ t. (h.trans x).1 ((k.trans x).0 t)))

  -- where a sink reads a transient variable no typing keeps all rules
  no_typing : (a : List Flow) (position : ℕ) → IsLeastTyping program set a → IsFirstSink program set position → ⊥
  no_typing a position h k = never_both (typing_of a k.var) ((h.trans k.var).1 k.transient) (h.flows_hold.sinks position k.var k.sink)

  first_once : (one other : ℕ) → IsFirstSink program set one → IsFirstSink program set other → one ≡ other
  first_once one other h k =
      let below = h.least other k.var k.sink k.transient in
      let above = k.least one h.var h.sink h.transient in
      omega (arith, below, above)

  -- a set has one verdict
  pub one_flow : (f g : FlowVerdict) → Judges program set f → Judges program set g → f ≡ g
  one_flow (flow.Yes a) (flow.Yes b) h k = ap (λ t. flow.Yes t) (one_typing a b h k)
  one_flow (flow.Yes a) (flow.No position) h k = absurd (no_typing a position.0 h k)
  one_flow (flow.No position) (flow.Yes b) h k = absurd (no_typing b position.0 k h)
  one_flow (flow.No position) (flow.No other) h k = ap (λ n. flow.No (record { 0 = n })) (first_once position.0 other.0 h k)

-- the label rules say yes of a program or no
pub one_yes : (program : Program) (v w : CtVerdict) → JudgesLabels program v → JudgesLabels program w → IsYes v ↔ IsYes w
one_yes program v w a b = (λ says. labelled_yes program w b (yes_labelled program v a says), λ says. labelled_yes program v a (yes_labelled program w b says))

module _ (bare : Program) (range : AreInRange bare) (one other : Hardened) (a : IsHardened bare one) (b : IsHardened bare other) where
  pub one_program : one.program ≡ other.program
  one_program = a.is_program ∙ ap (λ set. protected set bare) (fun_ext (λ s. only_one nothing bare range a.set b.set a.least b.least s)) ∙ sym b.is_program

  pub one_bytes : one.image ≡ other.image
  one_bytes = one_image other.program one.image other.image (subst (λ p. Image p one.image) one_program a.image) b.image

  pub one_answer : IsYes one.verdict ↔ IsYes other.verdict
  one_answer = one_yes other.program one.verdict other.verdict (subst (λ p. JudgesLabels p one.verdict) one_program a.judged) b.judged
