-- A program with other protects is well-formed, and what its commands read, write and weigh is as it was.
use Rattle.std.proofs.Common.{◌≡◌, ℕ, suc, ◌^◌, inl, inr, Bool, true, false, List, [], ◌∷◌, length, Option, Some, None, unwrap_or, refl, sym, ap, subst, ◌∙◌, arith}
use Rattle.std.specs.Prelude.{IsSomeAnd, IsSome, option_map, option_and_then, if◌then◌else◌}
use Rattle.std.specs.List.{All}
use Rattle.std.proofs.lemmas.Bool.{false≢true, cases_Bool}
use Rattle.std.proofs.lemmas.List.Elements.{All-cons, All-nil, All-contains}
use Rattle.bl_base.specs.Sums.{sum_below}
use Rattle.bl_base.proofs.Sums.{sum_same}
use Rattle.bl_program.specs.Layout.{command_at}
use Rattle.bl_program.specs.Programs.{IsCommand, IsProgram}
use Rattle.bl_program.specs.Rules.{IsWeight, IsWellFormed}
use Rattle.bl_program.specs.Sites.{Among, Loads, mark_of, mark_at, moved_by, sunk_by, written_by, listed, site_weight, is_protected, weight_of, IsSite, IsLoad, Writes, Reads, SinkReads}
use Rattle.bl_program.specs.declared.command.Mark.{Mark}
use Rattle.bl_program.specs.declared.command.Command.{Command}
use Rattle.bl_program.specs.declared.command.Command.TheVariants.{Set, Trap}
use Rattle.bl_program.specs.declared.definitions.ProgramParts.{ProgramParts as Program}
use Rattle.bl_cut.proofs.Remarked.{keeps_rules, still}
use Rattle.bl_graph.specs.Certificates.{sites_of, IsFlowPath, CertifiesSet, Certifies}
use Rattle.bl_graph.specs.Chains.{Carries, IsChain}
use Rattle.bl_graph.specs.Ranges.{AreSites}
use Rattle.bl_graph.specs.declared.certificate.Certificate.{Certificate}
use Rattle.bl_graph.proofs.ChainLemmas.{all_from}
use Rattle.bl_graph.proofs.PathCounts.{all_head, all_tail}
use Rattle.bl_cut.specs.Marks.{guarded, marked, marked_from, protected}
use Rattle.bl_cut.proofs.MarkedRuns.{alike, marked_length, command_is}

-- ---- one command

command_same : (b : Bool) (command : Command) → IsCommand command → IsCommand (marked b command)
command_same b (Set mark op to a c d) h = h
command_same b _ h = h

mark_same : (b : Bool) (command : Command) → mark_of (marked b command) ≡ option_map (guarded b) (mark_of command)
mark_same b (Set mark op to a c d) = refl
mark_same b _ = refl

pub loads_same : (b : Bool) (command : Command) → Loads command → Loads (marked b command)
loads_same b (Set mark op to a c d) h = h
loads_same b _ h = h

pub moved_same : (b : Bool) (command : Command) → moved_by (marked b command) ≡ moved_by command
moved_same b (Set mark op to a c d) = refl
moved_same b _ = refl

pub sunk_same : (b : Bool) (command : Command) → sunk_by (marked b command) ≡ sunk_by command
sunk_same b (Set mark op to a c d) = refl
sunk_same b _ = refl

some_each : {X Y : Type 0} (P : X → Type 0) (Q : Y → Type 0) (f : X → Y) (o : Option X) → ((x : X) → P x → Q (f x)) → IsSomeAnd o P → IsSomeAnd (option_map f o) Q
some_each P Q f None each h = h
some_each P Q f (Some x) each h = each x h

all_marked : (set : ℕ → Bool) (i : ℕ) (commands : List Command) → All IsCommand commands → All IsCommand (marked_from set i commands)
all_marked set i [] all = All-nil IsCommand
all_marked set i (command ∷ commands) all =
    All-cons IsCommand (marked (set i) command) (marked_from set (suc i) commands) (command_same (set i) command (all_head IsCommand command commands all))
    (all_marked set (suc i) commands (all_tail IsCommand command commands all))

module _ (set : ℕ → Bool) (program : Program) where
  abbrev pub after : Program
  after = protected set program

  pub written_same : (b : Bool) (s : ℕ) (command : Command) → written_by after s (marked b command) ≡ written_by program s command
  written_same b s (Set mark op to a c d) = refl
  written_same b s _ = refl

  -- ---- marks and weights

  mark_is : (s : ℕ) → mark_at after s ≡ option_map (guarded (set s)) (mark_at program s)
  mark_is s = ap (option_and_then mark_of) (command_is set program s) ∙ by (command_at program s)
    where
      by : (o : Option Command) → option_and_then mark_of (option_map (marked (set s)) o) ≡ option_map (guarded (set s)) (option_and_then mark_of o)
      by None = refl
      by (Some command) = mark_same (set s) command

  pub weight_is : (s : ℕ) → site_weight after s ≡ site_weight program s
  weight_is s = ap (option_map (λ (mark : Mark). unwrap_or (listed program.weights s) (10 ^ mark.depth))) (mark_is s) ∙ by (mark_at program s)
    where
      by : (o : Option Mark) → option_map (λ (mark : Mark). unwrap_or (listed program.weights s) (10 ^ mark.depth)) (option_map (guarded (set s)) o)
          ≡ option_map (λ (mark : Mark). unwrap_or (listed program.weights s) (10 ^ mark.depth)) o
      by None = refl
      by (Some mark) = refl

  pub weighs : (chosen : ℕ → Bool) → weight_of after chosen ≡ weight_of program chosen
  weighs chosen =
      ap (λ n. sum_below n (λ s. (if chosen s then unwrap_or (site_weight after s) 0 else 0))) (marked_length set 0 program.commands)
      ∙ sum_same (length program.commands) (λ s. (if chosen s then unwrap_or (site_weight after s) 0 else 0)) (λ s. (if chosen s then unwrap_or (site_weight program s) 0 else 0))
      (λ s lt. ap (λ o. (if chosen s then unwrap_or o 0 else 0)) (weight_is s))

  -- exactly the sites of the set are protected
  pub protects : (s : ℕ) → IsSite program s → is_protected after s ≡ set s
  protects s site = ap (λ o. unwrap_or (option_map (λ (mark : Mark). mark.protect) o) false) (mark_is s) ∙ by (mark_at program s) site
    where
      by : (o : Option Mark) → IsSome (option_map (λ (mark : Mark). unwrap_or (listed program.weights s) (10 ^ mark.depth)) o)
          → unwrap_or (option_map (λ (mark : Mark). mark.protect) (option_map (guarded (set s)) o)) false ≡ set s
      by None h = absurd (false≢true h)
      by (Some mark) h = refl

  pub protects_none : (s : ℕ) → (IsSite program s → ⊥) → is_protected after s ≡ false
  protects_none s none = ap (λ o. unwrap_or (option_map (λ (mark : Mark). mark.protect) o) false) (mark_is s) ∙ by (mark_at program s) none
    where
      by : (o : Option Mark) → (IsSome (option_map (λ (mark : Mark). unwrap_or (listed program.weights s) (10 ^ mark.depth)) o) → ⊥)
          → unwrap_or (option_map (λ (mark : Mark). mark.protect) (option_map (guarded (set s)) o)) false ≡ false
      by None h = refl
      by (Some mark) h = absurd (h refl)

  pub marks_are : AreSites program set → (s : ℕ) → is_protected after s ≡ set s
  marks_are sites s =
      elim (cases_Bool (set s)) as (λ _. is_protected after s ≡ set s) [
        | inl e ↦ protects s (sites s e)
        | inr e ↦ ap (λ o. unwrap_or (option_map (λ (mark : Mark). mark.protect) o) false) (mark_is s) ∙ (by (mark_at program s) e ∙ sym e)
      ]
    where
      by : (o : Option Mark) → set s ≡ false → unwrap_or (option_map (λ (mark : Mark). mark.protect) (option_map (guarded (set s)) o)) false ≡ false
      by None e = refl
      by (Some mark) e = e

  -- ---- the whole

  pub is_program : IsProgram program → IsProgram after
  is_program facts = record {
    commands = all_marked set 0 program.commands facts.commands;
    traps = λ position low. let trap = facts.traps position low in (trap.0, trap.1, still program (marked_from set 0 program.commands) program.weights (λ s. guarded (set s)) (alike set program) position (Trap trap.0) trap.2);
    lengths = marked_length set 0 program.commands ∙ facts.lengths;
  }

  pub is_well_formed : IsWellFormed program → IsWellFormed after
  is_well_formed rules = keeps_rules program (marked_from set 0 program.commands) program.weights (λ s. guarded (set s)) (alike set program) (λ s mark is. is) (marked_length set 0 program.commands) rules (record {
    demands_rise = rules.rule9.demands_rise;
    demands = rules.rule9.demands;
    weights_rise = rules.rule9.weights_rise;
    weights = all_from (IsWeight after) program.weights (λ entry h.
        let old = All-contains (IsWeight program) program.weights entry rules.rule9.weights h in
        record { site = subst (λ o. IsSome o) (sym (weight_is entry.at.0)) old.site; positive = old.positive });
    total = let same = weighs (λ _. true) in let lt = rules.rule9.total in omega arith;
  })

  -- ---- chains and certificates

  -- what holds of the command at a position holds of it with its mark
  at_position : (P Q : Command → Type 0) (s : ℕ) → ((command : Command) → P command → Q (marked (set s) command)) → IsSomeAnd (command_at program s) P → IsSomeAnd (command_at after s) Q
  at_position P Q s each h = subst (λ o. IsSomeAnd o Q) (sym (command_is set program s)) (some_each P Q (marked (set s)) (command_at program s) each h)

  load_on : (s : ℕ) → IsLoad program s → IsLoad after s
  load_on s h = at_position Loads Loads s (loads_same (set s)) h

  writes_on : (s x : ℕ) → Writes program s x → Writes after s x
  writes_on s x h = at_position (λ command. written_by program s command ≡ Some x) (λ command. written_by after s command ≡ Some x) s (λ command e. written_same (set s) s command ∙ e) h

  reads_on : (s x : ℕ) → Reads program s x → Reads after s x
  reads_on s x h = at_position (λ command. Among (moved_by command) x) (λ command. Among (moved_by command) x) s (λ command e. subst (λ l. Among l x) (sym (moved_same (set s) command)) e) h

  sinks_on : (s x : ℕ) → SinkReads program s x → SinkReads after s x
  sinks_on s x h = at_position (λ command. Among (sunk_by command) x) (λ command. Among (sunk_by command) x) s (λ command e. subst (λ l. Among l x) (sym (sunk_same (set s) command)) e) h

  carries_on : (x : ℕ) (sites : List ℕ) (sink : ℕ) → Carries program x sites sink → Carries after x sites sink
  carries_on x [] sink h = sinks_on sink x h
  carries_on x (s ∷ rest) sink h = (reads_on s x h.0, (h.1.0, writes_on s h.1.0 h.1.1, carries_on h.1.0 rest sink h.1.2))

  chain_on : (sites : List ℕ) (sink : ℕ) → IsChain program sites sink → IsChain after sites sink
  chain_on [] sink h = h
  chain_on (s ∷ rest) sink h = (load_on s h.0, (h.1.0, writes_on s h.1.0 h.1.1, carries_on h.1.0 rest sink h.1.2))

  -- a certificate for a set is one for the program that has its protects
  pub certifies_on : AreSites program set → (c : Certificate) → CertifiesSet program set c → Certifies after c
  certifies_on sites c h =
      let same : is_protected after ≡ set = λ i s. marks_are sites s i in
      subst (λ chosen. CertifiesSet after chosen c) (sym same) (record {
        paths = all_from (IsFlowPath after set) c.paths (λ path here.
            let old = All-contains (IsFlowPath program set) c.paths path h.paths here in
            record { chain = chain_on (sites_of path) path.sink.0 old.chain; amount = old.amount; once = old.once });
        fits = λ s w e. h.fits s w (sym (weight_is s) ∙ e);
        flow = h.flow ∙ sym (weighs set);
        weight = h.weight;
      })

-- the parts with other commands
pub made_is : (set : ℕ → Bool) (program parts : Program) (commands : List Command) → parts ≡ program → commands ≡ marked_from set 0 program.commands
    → (let made : Program = record parts { commands = commands } in made) ≡ protected set program
made_is set program parts commands e f = ap (λ (p : Program). record p { commands = commands }) e ∙ ap (λ l. record program { commands = l }) f
