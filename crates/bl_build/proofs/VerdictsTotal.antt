-- Programs and certificates have verdicts: by the rules of certificates, by the transient rules and by the label rules.
use Rattle.std.proofs.Common.{◌≡◌, ℕ, zero, suc, ◌<◌, ◌≤◌, Bool, true, false, List, [], ◌∷◌, length, take, Option, Some, None, slice_get, inl, inr, refl, sym, ap, ◌∙◌, subst, arith}
use Rattle.std.specs.Prelude.{IsTrue, not, IsSome}
use Rattle.std.proofs.lemmas.Bool.{cases_Bool, cases_lt, false≢true, not_from_false, not_from_true}
use Rattle.std.proofs.lemmas.List.Elements.{All-cons, All-nil}
use Rattle.std.proofs.lemmas.Option.{none-some, slice_get_past, same_Some}
use Rattle.bl_base.proofs.BoolLemmas.{never_both}
use Rattle.bl_base.proofs.Lists.{within_get}
use Rattle.bl_base.specs.declared.number.Pos.{Pos}
use Rattle.bl_base.specs.declared.names.Flow.{Flow}
use Rattle.bl_base.specs.declared.names.Flow.TheVariants.{Stable, Transient}
use Rattle.bl_base.specs.declared.names.Label.{Label}
use Rattle.bl_base.specs.declared.names.Label.TheVariants as label
use Rattle.bl_base.proofs.Classical.{all_or_first, some_first}
use Rattle.bl_program.specs.Programs.{IsProgram}
use Rattle.bl_program.specs.Rules.{IsWellFormed}
use Rattle.bl_program.specs.Sites.{SinkReads, is_protected}
use Rattle.bl_program.specs.declared.definitions.ProgramParts.{ProgramParts as Program}
use Rattle.bl_ct.specs.Verdicts.{FindsChain, IsLeastLabelling, Judges as JudgesLabels, chain_in, labelling_of}
use Rattle.bl_ct.specs.declared.verdict.CtVerdict.{CtVerdict}
use Rattle.bl_ct.specs.declared.verdict.CtVerdict.TheVariants as ct
use Rattle.bl_ct.proofs.SecretTest.{is_tested, labelling}
use Rattle.bl_ct.proofs.LabellingOrChain.{assigns, labelling_or_chain}
use Rattle.bl_ct.proofs.KnownRanges.{secrets_in_range}
use Rattle.bl_graph.specs.Certificates.{IsFlowPath, flow_through}
use Rattle.bl_graph.specs.Labels.{KeepsLabelRules, Secret, declared, loaded, moved}
use Rattle.bl_graph.specs.Ranges.{AreInRange, commands, variables}
use Rattle.bl_graph.specs.declared.certificate.Certificate.{Certificate}
use Rattle.bl_graph.specs.declared.certificate.FlowPath.{FlowPath}
use Rattle.bl_graph.specs.declared.secret.SecretChain.{SecretChain}
use Rattle.bl_graph.proofs.RangeLemmas.{in_range}
use Rattle.bl_graph.proofs.ChainExclusion.{chain_not, least}
use Rattle.bl_transient.specs.Transient.{Assigns, Passes, Trans, nothing}
use Rattle.bl_transient.specs.Verdicts.{IsFirstLeak, IsLeastTyping, Judges as JudgesFlow, typing_of}
use Rattle.bl_report.specs.Verdicts.{leak_in}
use Rattle.bl_sct.proofs.AssessLemmas.{transient}
use Rattle.bl_transient.specs.declared.transient.FlowVerdict.{FlowVerdict}
use Rattle.bl_transient.specs.declared.transient.FlowVerdict.TheVariants as flow
use Rattle.bl_transient.proofs.LeastTypings.{is_trans, least_assigns, least_typing, typing_trans}
use Rattle.bl_witness.specs.Verdicts.{ArePaths, Breaks, BreaksPath, Checks, Fits, at_path, at_position, at_sums, no_amount, no_chain, not_once}
use Rattle.bl_witness.specs.declared.verdict.CertVerdict.{CertVerdict}
use Rattle.bl_witness.specs.declared.verdict.CertVerdict.TheVariants as cert

-- ---- certificates

module _ (program : Program) (c : Certificate) (fine : Checks program c cert.Yes → ⊥) (broken : (rule index : ℕ) → Breaks program c rule index → ⊥) where
  abbrev Path : FlowPath → Type 0
  Path path = IsFlowPath program (is_protected program) path

  -- what holds of each item by its index holds of all
  all_by_index : (paths : List FlowPath) → ((index : ℕ) (path : FlowPath) → slice_get paths index ≡ Some path → Path path) → ArePaths program paths
  all_by_index [] each = All-nil Path
  all_by_index (path ∷ paths) each = All-cons Path path paths (each 0 path refl) (all_by_index paths (λ index one e. each (suc index) one e))

  first_ones : (paths : List FlowPath) (count : ℕ) → ((index : ℕ) (path : FlowPath) → index < count → slice_get paths index ≡ Some path → Path path) → ArePaths program (take count paths)
  first_ones paths zero each = All-nil Path
  first_ones [] (suc count) each = All-nil Path
  first_ones (path ∷ paths) (suc count) each = All-cons Path path (take count paths) (each 0 path (omega arith) refl) (first_ones paths count (λ index one lt e. each (suc index) one (omega arith) e))

  path_broken : (path : FlowPath) → (Path path → ⊥) → ((rule : ℕ) → BreaksPath program path rule → ⊥) → ⊥
  path_broken path bad breaks =
      breaks 1 (no_chain refl (λ chain. elim (cases_lt 0 path.amount) as (λ _. ⊥) [
        | inl some ↦ breaks 3 (not_once refl chain some (λ once. bad (record { chain = chain; amount = some; once = once })))
        | inr none ↦ breaks 2 (no_amount refl chain (omega arith))
      ]))

  each_fits : ArePaths program c.paths → AreInRange program → ((s : ℕ) → Fits program c s) → ⊥
  each_fits paths is fits = broken 5 0 (at_sums refl refl paths fits (λ sums. fine (record { paths = paths; fits = fits; flow = sums.0; weight = sums.1 })))

  at_site : ArePaths program c.paths → (s : ℕ) → (Fits program c s → ⊥) → ((m : ℕ) → m < s → Fits program c m) → ⊥
  at_site paths s bad below = bad (λ w e. elim (cases_lt w (flow_through c.paths s)) as (λ _. flow_through c.paths s ≤ w) [
    | inl more ↦ absurd (broken 4 s (at_position w refl paths below e more))
    | inr fits ↦ fits
  ])

  paths_fit : AreInRange program → ArePaths program c.paths → ⊥
  paths_fit is paths =
      all_or_first (Fits program c) (commands program)
      (λ within. each_fits paths is (λ s. elim (cases_lt s (commands program)) as (λ _. Fits program c s) [
        | inl lt ↦ within s lt
        | inr past ↦ λ w e. let site = is.sites s (subst (λ o. IsSome o) (sym e) refl) in absurd (omega arith)
      ])) (λ s lt. at_site paths s)

  certificate_told : AreInRange program → ⊥
  certificate_told is =
      all_or_first (λ index. (path : FlowPath) → slice_get c.paths index ≡ Some path → Path path) (length c.paths)
      (λ all. paths_fit is (all_by_index c.paths (λ index path e. elim (cases_lt index (length c.paths)) as (λ _. Path path) [
        | inl lt ↦ all index lt path e
        | inr past ↦ absurd (none-some path (sym (slice_get_past c.paths index past) ∙ e))
      ])))
      (λ index lt bad below.
      let path = within_get c.paths index lt in
      path_broken path.0 (λ holds. bad (λ other e. subst Path (same_Some path.0 other (sym path.1 ∙ e)) holds))
      (λ rule breaks. broken rule index (at_path path.0 path.1 (first_ones c.paths index (λ place one less e. below place less one e)) breaks)))

pub some_check : (program : Program) (c : Certificate) → AreInRange program → ((verdict : CertVerdict) → Checks program c verdict → ⊥) → ⊥
some_check program c is none = certificate_told program c (none cert.Yes) (λ rule index b. none (cert.No rule index) b) is

-- ---- lists of what stands at each number

pub table : {A : Type 0} → ℕ → (ℕ → A) → List A
table zero f = []
table (suc count) f = f 0 ∷ table count (λ x. f (suc x))

pub table_length : {A : Type 0} (count : ℕ) (f : ℕ → A) → length (table count f) ≡ count
unfolding table
table_length zero f = refl
table_length (suc count) f = ap suc (table_length count (λ x. f (suc x)))

pub table_at : {A : Type 0} (count : ℕ) (f : ℕ → A) (x : ℕ) → x < count → slice_get (table count f) x ≡ Some (f x)
unfolding table
table_at zero f x lt = absurd (omega arith)
table_at (suc count) f zero lt = refl
table_at (suc count) f (suc x) lt = table_at count (λ x. f (suc x)) x (omega arith)

pub table_past : {A : Type 0} (count : ℕ) (f : ℕ → A) (x : ℕ) → count ≤ x → slice_get (table count f) x ≡ None
table_past count f x past = slice_get_past (table count f) x (let long = table_length count f in omega arith)

-- ---- transient variables

flow_of_mark : Bool → Flow
flow_of_mark true = Transient
flow_of_mark false = Stable

module _ (program : Program) (set : ℕ → Bool) (is : AreInRange program) where
  trans_within : (x : ℕ) → Trans program set x → x < variables program
  trans_within x (Rattle.bl_transient.specs.Transient.loaded s _ load writes may) = (is.writes s x writes).1
  trans_within x (Rattle.bl_transient.specs.Transient.moved s y _ reads writes may t) = (is.writes s x writes).1
  trans_within x (Rattle.bl_transient.specs.Transient.given _ transient) = absurd (false≢true transient)

  flows : List Flow
  flows = table (variables program) (λ x. flow_of_mark (least_typing nothing program set x))

  same_typing : (x : ℕ) → typing_of flows x ≡ least_typing nothing program set x
  unfolding flows flow_of_mark
  same_typing x =
      elim (cases_lt x (variables program)) as (λ _. typing_of flows x ≡ least_typing nothing program set x) [
        | inl lt ↦
            ap Rattle.bl_transient.specs.Verdicts.is_transient (table_at (variables program) (λ x. flow_of_mark (least_typing nothing program set x)) x lt) ∙ marked (least_typing nothing program set x)
        | inr past ↦
            ap Rattle.bl_transient.specs.Verdicts.is_transient (table_past (variables program) (λ x. flow_of_mark (least_typing nothing program set x)) x past)
            ∙ elim (cases_Bool (least_typing nothing program set x)) as (λ _. false ≡ least_typing nothing program set x) [
              | inl e ↦ let lt = trans_within x (typing_trans nothing program set x e) in absurd (omega arith)
              | inr e ↦ sym e
            ]
      ]
    where
      marked : (b : Bool) → Rattle.bl_transient.specs.Verdicts.is_transient (Some (flow_of_mark b)) ≡ b
      marked true = refl
      marked false = refl

  many_flows : length flows ≡ variables program
  unfolding flows
  many_flows = table_length (variables program) (λ x. flow_of_mark (least_typing nothing program set x))

  same_typings : typing_of flows ≡ least_typing nothing program set
  same_typings = λ i x. same_typing x i

  least_flows : ((position x : ℕ) → SinkReads program position x → not (least_typing nothing program set x) ≡ true) → IsLeastTyping program set flows
  least_flows stable = record {
    places = many_flows;
    flows_hold = record {
      assigns = subst (λ typing. Assigns program typing set) (sym same_typings) (least_assigns nothing program set);
      sinks = λ position x reads. subst (λ b. not b ≡ true) (sym (same_typing x)) (stable position x reads);
      stable = λ x is. absurd (false≢true is);
    };
    trans = λ x. ((λ h. typing_trans nothing program set x (sym (same_typing x) ∙ h)), (λ t. same_typing x ∙ is_trans nothing program set x t));
  }

  -- what a sink reads is stable in the least typing where it is in some that keeps the rules
  stays_stable : Passes program set → (position x : ℕ) → SinkReads program position x → not (least_typing nothing program set x) ≡ true
  stays_stable p position x reads =
      elim (cases_Bool (least_typing nothing program set x)) as (λ _. not (least_typing nothing program set x) ≡ true) [
        | inl e ↦ absurd (never_both (p.0 x) (transient program set p.0 p.1.assigns x (typing_trans nothing program set x e)) (p.1.sinks position x reads))
        | inr e ↦ not_from_false (least_typing nothing program set x) e
      ]

  -- the first leak is that of a verdict
  pub flow_verdict_of : (leak : Option Pos) → IsFirstLeak program set leak → (verdict : FlowVerdict) × JudgesFlow program set verdict × (leak_in verdict ≡ leak)
  flow_verdict_of None passes = (flow.Yes flows, least_flows (stays_stable passes), refl)
  flow_verdict_of (Some position) first = (flow.No position, first, refl)

  pub some_flow_verdict : ((verdict : FlowVerdict) → JudgesFlow program set verdict → ⊥) → ⊥
  some_flow_verdict none = none (flow.Yes flows) (least_flows stable)
    where
      stable : (position x : ℕ) → SinkReads program position x → not (least_typing nothing program set x) ≡ true
      stable position x reads =
          elim (cases_Bool (least_typing nothing program set x)) as (λ _. not (least_typing nothing program set x) ≡ true) [
            | inl e ↦
                absurd (some_first (λ place. (y : ℕ) × SinkReads program place y × Trans program set y) position (x, reads, typing_trans nothing program set x e) (λ first.
                none (flow.No (record { 0 = first.0 }))
                (record { var = first.1.is.0; sink = first.1.is.1; transient = first.1.is.2; least = λ other y sink t. first.1.least other (y, sink, t) })))
            | inr e ↦ not_from_false (least_typing nothing program set x) e
          ]

-- ---- labels

label_of_mark : Bool → Label
label_of_mark true = label.Secret
label_of_mark false = label.Public

module _ (program : Program) (facts : IsProgram program) (rules : IsWellFormed program) where
  abbrev secret : ℕ → Bool
  secret = labelling program

  secret_within : (x : ℕ) → Secret program x → x < variables program
  secret_within x (declared _ origin h) = (secrets_in_range program facts rules).declared x origin h
  secret_within x (loaded s memory _ loads writes) = ((in_range program facts rules).writes s x writes).1
  secret_within x (moved s y _ reads writes t) = ((in_range program facts rules).writes s x writes).1

  labels : List Label
  labels = table (variables program) (λ x. label_of_mark (secret x))

  same_label : (x : ℕ) → labelling_of labels x ≡ secret x
  unfolding labels label_of_mark
  same_label x =
      elim (cases_lt x (variables program)) as (λ _. labelling_of labels x ≡ secret x) [
        | inl lt ↦ ap Rattle.bl_ct.specs.Verdicts.is_secret (table_at (variables program) (λ x. label_of_mark (secret x)) x lt) ∙ marked (secret x)
        | inr past ↦
            ap Rattle.bl_ct.specs.Verdicts.is_secret (table_past (variables program) (λ x. label_of_mark (secret x)) x past)
            ∙ elim (cases_Bool (secret x)) as (λ _. false ≡ secret x) [
              | inl e ↦ let lt = secret_within x ((is_tested program x).0 e) in absurd (omega arith)
              | inr e ↦ sym e
            ]
      ]
    where
      marked : (b : Bool) → Rattle.bl_ct.specs.Verdicts.is_secret (Some (label_of_mark b)) ≡ b
      marked true = refl
      marked false = refl

  same_labels : labelling_of labels ≡ secret
  same_labels = λ i x. same_label x i

  many_labels : length labels ≡ variables program
  unfolding labels
  many_labels = table_length (variables program) (λ x. label_of_mark (secret x))

  -- what is public in one labelling is in the least one
  stays_public : (other : ℕ → Bool) → KeepsLabelRules program other → (x : ℕ) → IsTrue (not (other x)) → IsTrue (not (secret x))
  stays_public other is x public =
      elim (cases_Bool (secret x)) as (λ _. IsTrue (not (secret x))) [
        | inl e ↦ absurd (false≢true (sym (not_from_true (other x) (least program other x is.assigns ((is_tested program x).0 e))) ∙ public))
        | inr e ↦ not_from_false (secret x) e
      ]

  least_labels : (other : ℕ → Bool) → KeepsLabelRules program other → IsLeastLabelling program labels
  least_labels other is = record {
    places = many_labels;
    labelled = subst (KeepsLabelRules program) (sym same_labels) (record {
      assigns = assigns program;
      sinks = λ position x h. stays_public other is x (is.sinks position x h);
      stores = λ position x h. stays_public other is x (is.stores position x h);
      demanded = λ x h. stays_public other is x (is.demanded x h);
    });
    least = λ x. (
      (λ h. (is_tested program x).0 (sym (same_label x) ∙ h)),
      (λ t. same_label x ∙ (is_tested program x).1 t),
    );
  }

  -- the secret chain is that of a verdict
  pub label_verdict_of : (chain : Option SecretChain) → FindsChain program chain → (verdict : CtVerdict) × JudgesLabels program verdict × (chain_in verdict ≡ chain)
  label_verdict_of None constant = (ct.Yes labels, least_labels constant.0 constant.1, refl)
  label_verdict_of (Some chain) found = (ct.No chain, found, refl)

  pub some_label_verdict : (verdict : CtVerdict) × JudgesLabels program verdict
  some_label_verdict =
      elim (labelling_or_chain program (secrets_in_range program facts rules)) as (λ _. (verdict : CtVerdict) × JudgesLabels program verdict) [
        | inl constant ↦ (ct.Yes labels, least_labels constant.0 constant.1)
        | inr chain ↦ (
          ct.No chain.0,
          (chain.1, λ constant. chain_not program constant.0 constant.1 chain.0.origin (Rattle.std.specs.Prelude.map (λ (s : Rattle.bl_base.specs.declared.number.Pos.Pos). s.0) chain.0.through) chain.0.end.0 chain.1),
        )
      ]
