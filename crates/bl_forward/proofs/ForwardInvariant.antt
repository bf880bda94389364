-- Each directive of the machine that forwards stores keeps the buffer along the plain run.
use Rattle.std.proofs.Common.{◌≡◌, ℕ, suc, ◌+◌, ◌≤◌, Bool, true, false, List, ◌∷◌, length, take, drop, Option, Some, None, refl, sym, ap, ◌∙◌, subst, arith}
use Rattle.std.specs.Prelude.{if◌then◌else◌, slice_get}
use Rattle.bl_base.specs.Bytes.{number_of}
use Rattle.bl_base.specs.declared.start.Start.{Start}
use Rattle.bl_ops.specs.Access.{extended, width_of}
use Rattle.bl_ops.specs.declared.access.AccessKind.{AccessKind}
use Rattle.bl_program.specs.Outcomes.{IsStart, opening as plain_opening}
use Rattle.bl_program.specs.Programs.{IsProgram}
use Rattle.bl_program.specs.Rules.{IsWellFormed}
use Rattle.bl_program.specs.Steps.{Plain as PlainState, effective, loaded, written}
use Rattle.bl_program.specs.declared.definitions.ProgramParts.{ProgramParts as Program}
use Rattle.bl_seq.proofs.OwnSteps.{Reached}
use Rattle.bl_rob.specs.Machines.{State, Fetched, Straight, Branch, Nowhere, before, opening, directive_step, guards, has_pending, valued, visible_of}
use Rattle.bl_rob.specs.Observations.{IsConsistent, after_by}
use Rattle.bl_rob.specs.declared.directive.Directive.{Directive}
use Rattle.bl_rob.specs.declared.directive.Directive.TheVariants.{Fetch, Predict, Exec, Retire}
use Rattle.bl_rob.specs.declared.directive.Observation.{Observation}
use Rattle.bl_rob.specs.declared.directive.Observation.TheVariants as observation
use Rattle.bl_rob.specs.declared.entry.Act.TheVariants.{Becomes}
use Rattle.bl_rob.specs.declared.entry.Entry.{Entry}
use Rattle.bl_rob.specs.declared.entry.Register.{Register}
use Rattle.bl_rob.specs.declared.entry.Source.{Source}
use Rattle.bl_rob.specs.declared.entry.Work.{Work}
use Rattle.bl_rob.specs.declared.entry.Work.TheVariants.{Load}
use Rattle.bl_rob.proofs.BufferInvariant.{Holds, Stays, Kept, split, is_running, acted_ok, stays, step_ok, all_kept, kept_consistent, opening_kept}
use Rattle.bl_rob.proofs.PlainTracks.{Config, value_in, run_on, IsLoad, stands_there, Tracks, Along, committed, entry_at, source_below, space_behind, value_ok, Says}
use Rattle.bl_sct.proofs.StepAgreement.{LiesIn, InsideOf, inside_from, plain_of}
use Rattle.bl_sct.proofs.Loads.{IsOpened, opened_by, within, reached_run, ran_reached, ran_long}
use Rattle.bl_forward.specs.declared.find.Found.{Found}
use Rattle.bl_forward.specs.declared.find.Found.TheVariants.{Memory, Stored, Blocked}
use Rattle.bl_forward.specs.ForwardMachines.{found_in, execution_by, execution_from, execution_of, plainly, stepped, exec_work, exec_at, forward_step}
use Rattle.bl_forward.specs.declared.load.Execution.{Execution}
use Rattle.bl_forward.specs.declared.load.Execution.TheVariants as execution
use Rattle.bl_forward.specs.declared.seen.Seen.{Seen}
use Rattle.bl_forward.specs.declared.seen.Seen.TheVariants.{Plain, Forward}
use Rattle.bl_forward.proofs.ReadyStores.{Right, all}

pub plainly_holds : (P : State → Type 0) (o : Option (State × Observation)) → Holds P o → Holds P (plainly o)
plainly_holds P None h = tt
plainly_holds P (Some step) h = h

module _ (program : Program) (facts : IsProgram program) (rules : IsWellFormed program) (from : PlainState) (opened : IsOpened program from) where
  -- a load that the plain run comes to lies in the memories
  lies_by : (c : Config) (protect : Bool) (kind : AccessKind) (memory : ℕ) (to : Register) (offset : ℕ) (address : Source) (x : Fetched)
      → IsLoad (Load protect kind memory to offset address) x → InsideOf program c x
      → LiesIn program memory (effective program memory offset (value_in c.registers address)) (width_of kind)
  lies_by c protect kind memory to offset address (Straight (Load p k m t o a) front) h i =
      let mem : m ≡ memory = cc in
      let knd : k ≡ kind = cc in
      let off : o ≡ offset = cc in
      let adr : a ≡ address = cc in
      subst (λ z. LiesIn program memory (effective program memory offset (value_in c.registers z)) (width_of kind)) adr
      (subst (λ z. LiesIn program memory (effective program memory z (value_in c.registers a)) (width_of kind)) off
      (subst (λ z. LiesIn program memory (effective program memory o (value_in c.registers a)) (width_of z)) knd
      (subst (λ z. LiesIn program z (effective program z o (value_in c.registers a)) (width_of k)) mem i)))
  lies_by c protect kind memory to offset address (Branch cond one other) h i = absurd h
  lies_by c protect kind memory to offset address Nowhere h i = absurd h
  lies_by c protect kind memory to offset address _ h i = cc

  module _ (plain : Option (State × Seen)) (s : State) (k : Kept program from s) (n position : ℕ) (protect : Bool) (kind : AccessKind) (memory : ℕ) (to : Register) (offset : ℕ) (source : Source) where
    abbrev executes : Execution → Option (State × Seen)
    executes = stepped plain s n position

    abbrev load : Work
    load = Load protect kind memory to offset source

    abbrev pre : List Entry
    pre = take n s.buffer

    abbrev post : List Entry
    post = drop (suc n) s.buffer

    -- where the plain run comes to it, its access lies in the memories
    room_at : (d : Config) → d ≡ run_on program (length pre) k.config → Tracks program (entry_at position load ∷ post) d s.front
        → effective program memory offset (value_in d.registers source) + width_of kind ≤ length k.config.space
    room_at d is t =
        let running = is_running program d.front (stands_there load (before program d.front) t.0) in
        let reached = subst (λ (x : Config). x.front.end ≡ None → Reached program (plain_of program x)) (sym is)
        (reached_run program facts rules (length pre) k.config (ran_reached program facts rules from opened s.retired k.config k.ran)) in
        let lies = lies_by d protect kind memory to offset source (before program d.front) t.0 (inside_from program facts rules d (reached running) d.front.end) in
        let w = within program facts rules memory _ (width_of kind) lies in
        let long = ran_long program facts rules from opened s.retired k.config k.ran in
        omega arith

    -- what is loaded there fills the entry
    fill_ok : (address value : ℕ) (seen : Seen) → slice_get s.buffer n ≡ Some (entry_at position load)
        → visible_of s.registers pre source ≡ Some address
        → ((d : Config) → Along program pre (committed s.registers) k.config d
        → effective program memory offset address + width_of kind ≤ length k.config.space
        → value ≡ loaded kind d.space (effective program memory offset address))
        → Holds (Stays program k.config s.retired) (executes (execution.Fills (valued protect to value) seen))
    fill_ok address value seen at shows is =
        acted_ok program k.config s k.inv n pre post (entry_at position load) (Becomes (valued protect to value) observation.Nothing) refl refl
        (subst (λ b. Tracks program b k.config s.front) (split s.buffer n (entry_at position load) at) k.inv.tracks)
        (λ d a t.
        let same : address ≡ value_in d.registers source = subst (λ o. Says o (value_in d.registers source)) shows (source_below s.registers pre d.registers source a.below) in
        let room = room_at d a.run t in
        let v : value ≡ loaded kind d.space (effective program memory offset (value_in d.registers source))
        = is d a (subst (λ z. effective program memory offset z + width_of kind ≤ length k.config.space) (sym same) room)
        ∙ ap (λ z. loaded kind d.space (effective program memory offset z)) same in
        λ p. value_ok program d post s.front protect to value p (stands_there load (before program d.front) t.0)
        (ap (λ z. written d.registers to.depth to.var z) v ∙ t.1) t.2 t.3)

    takes_ok : (address : ℕ) (found : Found) → slice_get s.buffer n ≡ Some (entry_at position load) → visible_of s.registers pre source ≡ Some address
        → has_pending pre ≡ false → found_in program (effective program memory offset address) (width_of kind) pre ≡ found
        → Holds (Stays program k.config s.retired) (executes (execution_by s.space (guards pre) protect kind to (effective program memory offset address) (Some found)))
    takes_ok address Memory at shows q e =
        fill_ok address _ (Plain (observation.Read (effective program memory offset address) (guards pre))) at shows (λ d a room.
        let right = all (effective program memory offset address) (width_of kind) k.config.space program pre k.config.space Memory room refl in
        let found = subst (Right (effective program memory offset address) (width_of kind) k.config.space (space_behind program pre k.config.space)) e right in
        ap (λ m. loaded kind m (effective program memory offset address)) k.inv.space
        ∙ ap (λ l. extended kind (number_of l)) (sym found)
        ∙ ap (λ m. loaded kind m (effective program memory offset address)) (sym (a.space q)))
    takes_ok address (Stored number) at shows q e =
        fill_ok address _ (Forward (effective program memory offset address) (guards pre)) at shows (λ d a room.
        let right = all (effective program memory offset address) (width_of kind) k.config.space program pre k.config.space Memory room refl in
        let found = subst (Right (effective program memory offset address) (width_of kind) k.config.space (space_behind program pre k.config.space)) e right in
        ap (extended kind) (sym found)
        ∙ ap (λ m. loaded kind m (effective program memory offset address)) (sym (a.space q)))
    takes_ok address Blocked at shows q e = tt

    settled_ok : (address : ℕ) (pending : Bool) → slice_get s.buffer n ≡ Some (entry_at position load) → visible_of s.registers pre source ≡ Some address
        → has_pending pre ≡ pending
        → Holds (Stays program k.config s.retired)
        (executes (execution_by s.space (guards pre) protect kind to (effective program memory offset address)
        (if pending then None else Some (found_in program (effective program memory offset address) (width_of kind) pre))))
    settled_ok address true at shows q = tt
    settled_ok address false at shows q = takes_ok address _ at shows q refl

    fills_ok : (o : Option ℕ) → slice_get s.buffer n ≡ Some (entry_at position load) → visible_of s.registers pre source ≡ o
        → Holds (Stays program k.config s.retired) (executes (execution_from program s.space pre protect kind memory to offset o))
    fills_ok None at shows = tt
    fills_ok (Some address) at shows = settled_ok address _ at shows refl

    load_ok : slice_get s.buffer n ≡ Some (entry_at position load) → Holds (Kept program from) (executes (execution_of program s pre load))
    load_ok at = stays program from k.config s.retired (executes (execution_of program s pre load)) k.ran (fills_ok _ at refl)

  plain_ok : (most : ℕ) (s : State) (d : Directive) → Kept program from s → Holds (Kept program from) (plainly (directive_step most program s d))
  plain_ok most s d k = plainly_holds (Kept program from) (directive_step most program s d) (step_ok program from most s d k)

  work_ok : (most : ℕ) (s : State) (n position : ℕ) (work : Work) → Kept program from s → slice_get s.buffer n ≡ Some (entry_at position work)
      → Holds (Kept program from) (exec_work most program s n position work)
  work_ok most s n position (Load protect kind memory to offset address) k at =
      load_ok (plainly (directive_step most program s (Exec n))) s k n position protect kind memory to offset address at
  work_ok most s n position _ k at = plain_ok most s (Exec n) k

  exec_ok : (most : ℕ) (s : State) (n : ℕ) (o : Option Entry) → Kept program from s → slice_get s.buffer n ≡ o → Holds (Kept program from) (exec_at most program s n o)
  exec_ok most s n None k at = tt
  exec_ok most s n (Some e) k at = work_ok most s n e.position e.work k at

  pub forward_ok : (most : ℕ) (s : State) (d : Directive) → Kept program from s → Holds (Kept program from) (forward_step most program s d)
  forward_ok most s Fetch k = plain_ok most s Fetch k
  forward_ok most s (Predict predicted) k = plain_ok most s (Predict predicted) k
  forward_ok most s (Exec n) k = exec_ok most s n (slice_get s.buffer n) k refl
  forward_ok most s Retire k = plain_ok most s Retire k

pub consistent : (program : Program) → IsProgram program → IsWellFormed program → (function : ℕ) (start : Start) → IsStart program function start
    → (most : ℕ) (directives : List Directive)
    → IsConsistent program (plain_opening program function start) (after_by (forward_step most program) directives (opening program function start))
consistent program facts rules function start fits most directives =
    let from = plain_opening program function start in
    kept_consistent program from (after_by (forward_step most program) directives (opening program function start))
    (all_kept program from (forward_step most program) (forward_ok program facts rules from (opened_by program facts rules function start fits) most) directives (opening program function start)
    (opening_kept program function start))
