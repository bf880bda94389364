-- A run along selected commands is a run of the instructions.
use Rattle.std.proofs.Common.{◌≡◌, ℕ, zero, suc, ◌+◌, ◌*◌, ◌≤◌, List, length, Some, sym, ap, ◌∙◌, subst, arith}
use Rattle.bl_base.specs.Runs.{goes, StepsTo}
use Rattle.bl_base.proofs.RunLemmas.{comes_then, one_next}
use Rattle.bl_program.specs.Layout.{base, command_at}
use Rattle.bl_program.specs.Steps.{Plain, plain_step, perform}
use Rattle.bl_program.specs.declared.command.Command.{Command}
use Rattle.bl_program.specs.declared.command.Command.TheVariants.{Set, Load, Store, Test, Jump}
use Rattle.bl_program.specs.declared.definitions.ProgramParts.{ProgramParts as Program}
use Rattle.bl_x64.specs.Machines.{Core}
use Rattle.bl_x64.specs.Programs.{machine_step}
use Rattle.bl_x64.specs.declared.instruction.Instruction.{Instruction}
use Rattle.bl_select.specs.Frames.{IsFrame, IsPlacing, Matches, source_of}
use Rattle.bl_select.specs.Selection.{Selection, template_of, ArePlaced, LiesWithin, Continues, RunsSelected}
use Rattle.bl_select.specs.Simulation.{IsStage, at, Follows, Branches}
use Rattle.bl_select.specs.StraightRuns.{Stands}
use Rattle.bl_select.proofs.Follows.{set_follows, load_follows, store_follows, test_follows, jump_follows}
use Rattle.bl_select.proofs.Lengths.{load_length, store_length, set_length}

-- some steps of the machine, and what they come to
pub record Steps (program : Program) (e : Selection) (code : List Instruction) (most : ℕ) (s : Plain) (c : Core) (next : Plain) : Type 0 where
  pub core : Core
  pub count : ℕ
  pub some : 1 ≤ count
  pub few : count ≤ most
  pub steps : StepsTo (machine_step e.frame.areas code) count (at (e.begins s.position) c) (at (e.begins next.position) core)
  pub matches : Matches program e.frame (e.placing next.position) next core

module _ (program : Program) (e : Selection) (code : List Instruction) (frame : IsFrame e.frame) (placings : (position : ℕ) → IsPlacing e.frame (e.placing position)) where
  -- a template that falls to the next one
  from_follows : (s : Plain) (c : Core) (template : List Instruction) (next : Plain) → plain_step program s ≡ goes next → 1 ≤ length template → length template ≤ 21
      → e.begins (suc s.position) ≡ length template + e.begins s.position
      → Follows program e.frame (e.placing (suc s.position)) s code (e.begins s.position) template c → next.position ≡ suc s.position → Steps program e code 21 s c next
  from_follows s c template next is some few joins h on =
      let same : h.next ≡ next = one_next (plain_step program) s h.next next h.plain is in
      let falls : h.next.position ≡ suc s.position = ap (λ (x : Plain). x.position) same ∙ on in
      let place : length template + e.begins s.position ≡ e.begins h.next.position = sym joins ∙ ap e.begins (sym falls) in
      subst (λ n. Steps program e code 21 s c n) same (record {
        core = h.core;
        count = length template;
        some = some;
        few = few;
        steps = subst (λ p. StepsTo (machine_step e.frame.areas code) (length template) (at (e.begins s.position) c) (at p h.core)) place h.steps;
        matches = subst (λ p. Matches program e.frame (e.placing p) h.next h.core) (sym falls) h.matches;
      })

  -- where a plain step leads that falls to the next position
  on_from : (s next : Plain) {n : Plain} → plain_step program s ≡ goes n → plain_step program s ≡ goes next → next.position ≡ n.position
  on_from s next {n} e is = ap (λ (x : Plain). x.position) (one_next (plain_step program) s next n is e)

  from_branches : (s : Plain) (c : Core) (next : Plain) → plain_step program s ≡ goes next → Branches program e.frame e.placing e.begins s code (e.begins s.position) c → Steps program e code 21 s c next
  from_branches s c next is h =
      let same : h.next ≡ next = one_next (plain_step program) s h.next next h.plain is in
      subst (λ n. Steps program e code 21 s c n) same (record { core = h.core; count = h.count; some = h.some; few = omega (arith, h.few); steps = h.steps; matches = h.matches })

  step_by : (s : Plain) (c : Core) (next : Plain) (command : Command) → Matches program e.frame (e.placing s.position) s c → plain_step program s ≡ goes next → command_at program s.position ≡ Some command
      → Stands code (e.begins s.position) (template_of program e s.position command) → Continues e s.position (template_of program e s.position command) command
      → ArePlaced program e s.position command → LiesWithin program s command → Steps program e code 21 s c next
  step_by s c next (Set mark op x a b z) m is got stands joins placed within =
      let command_is = ap (λ o. perform program o s) got in
      let stage : IsStage program e.frame (e.placing s.position) s c = record { frame = frame; placing = placings s.position; matches = m } in
      let h = set_follows program e.frame (e.placing s.position) s c code (e.begins s.position) (e.placing (suc s.position)) mark op x a b z stage (placings (suc s.position)) placed.0 placed.1 placed.2 placed.3 got stands in
      let size = set_length mark.protect op ((e.placing (suc s.position)).location x.0) (source_of (e.placing s.position) a) (source_of (e.placing s.position) b) (source_of (e.placing s.position) z) in
      from_follows s c _ next is size.0 size.1 joins h (on_from s next command_is is)
  step_by s c next (Load mark kind memory x offset a) m is got stands joins placed within =
      let command_is = ap (λ o. perform program o s) got in
      let stage : IsStage program e.frame (e.placing s.position) s c = record { frame = frame; placing = placings s.position; matches = m } in
      let h = load_follows program e.frame (e.placing s.position) s c code (e.begins s.position) (e.placing (suc s.position)) mark kind memory x offset a stage (placings (suc s.position)) placed.0 placed.2 placed.1 within got stands in
      let size = load_length mark.protect kind ((e.placing (suc s.position)).location x.0) (base program memory + offset) (source_of (e.placing s.position) a) in
      from_follows s c _ next is size.0 size.1 joins h (on_from s next command_is is)
  step_by s c next (Store kind memory offset a b) m is got stands joins placed within =
      let command_is = ap (λ o. perform program o s) got in
      let stage : IsStage program e.frame (e.placing s.position) s c = record { frame = frame; placing = placings s.position; matches = m } in
      let h = store_follows program e.frame (e.placing s.position) s c code (e.begins s.position) (e.placing (suc s.position)) kind memory offset a b stage placed.0 placed.3 placed.1 placed.2 within got stands in
      let size = store_length kind (base program memory + offset) (source_of (e.placing s.position) a) (source_of (e.placing s.position) b) in
      from_follows s c _ next is size.0 size.1 joins h (on_from s next command_is is)
  step_by s c next (Test a one other) m is got stands joins placed within =
      let stage : IsStage program e.frame (e.placing s.position) s c = record { frame = frame; placing = placings s.position; matches = m } in
      from_branches s c next is (test_follows program e.frame (e.placing s.position) s c code (e.begins s.position) e.placing e.begins a one other stage placed.2 placed.0 placed.1 got stands)
  step_by s c next (Jump to) m is got stands joins placed within =
      let stage : IsStage program e.frame (e.placing s.position) s c = record { frame = frame; placing = placings s.position; matches = m } in
      from_branches s c next is (jump_follows program e.frame (e.placing s.position) s c code (e.begins s.position) e.placing e.begins to stage placed got stands)
  step_by s c next command m is got stands joins placed within = absurd placed

  pub runs_follow : (n : ℕ) (s t : Plain) (c : Core) → Matches program e.frame (e.placing s.position) s c → RunsSelected program e code n s t
      → (m : ℕ) × (d : Core) × (n ≤ m) × (m ≤ 21 * n) × StepsTo (machine_step e.frame.areas code) m (at (e.begins s.position) c) (at (e.begins t.position) d) × Matches program e.frame (e.placing t.position) t d
  runs_follow zero s t c m run =
      (0, c, omega arith, omega arith, ap (λ x. at (e.begins x.position) c) run, subst (λ x. Matches program e.frame (e.placing x.position) x c) run m)
  runs_follow (suc n) s t c m run =
      let next = run.0 in
      let chosen = run.2 in
      let first = step_by s c next chosen.command m run.1 chosen.is chosen.stands chosen.continues chosen.placed chosen.within in
      let rest = runs_follow n next t first.core first.matches run.3 in (
        first.count + rest.0,
        rest.1,
        omega (arith, first.some, rest.2),
        omega (arith, first.few, rest.3),
        comes_then (machine_step e.frame.areas code) first.count rest.0 (at (e.begins s.position) c) (at (e.begins next.position) first.core) (at (e.begins t.position) rest.1) first.steps rest.4,
        rest.5,
      )
