-- Two machines that forward stores, under the same directives: each directive keeps them alike, and is observed alike.
use Rattle.std.proofs.Common.{◌≡◌, ℕ, suc, Bool, true, false, List, length, take, drop, Option, Some, None, refl, sym, ap, ◌∙◌, subst}
use Rattle.std.specs.Prelude.{◌&&◌, ◌||◌, nat_eq, if◌then◌else◌, slice_get, IsTrue}
use Rattle.bl_ops.specs.Access.{narrowed, width_of}
use Rattle.bl_ops.specs.declared.access.AccessKind.{AccessKind}
use Rattle.bl_program.specs.Outcomes.{opening as plain_opening}
use Rattle.bl_program.specs.Programs.{IsProgram}
use Rattle.bl_program.specs.Rules.{IsWellFormed}
use Rattle.bl_program.specs.Sites.{is_protected}
use Rattle.bl_program.specs.Steps.{Plain, effective}
use Rattle.bl_program.specs.declared.definitions.GlobalDef.{GlobalDef}
use Rattle.bl_program.specs.declared.definitions.ProgramParts.{ProgramParts as Program}
use Rattle.bl_graph.specs.Labels.{KeepsLabelRules, ConstantTime}
use Rattle.bl_transient.specs.Transient.{Flows, Passes}
use Rattle.bl_rob.specs.Machines.{State, directive_step, guards, is_pending, has_pending, valued, visible_of}
use Rattle.bl_rob.specs.declared.directive.Directive.{Directive}
use Rattle.bl_rob.specs.declared.directive.Directive.TheVariants.{Fetch, Predict, Exec, Retire}
use Rattle.bl_rob.specs.declared.directive.Observation.{Observation}
use Rattle.bl_rob.specs.declared.directive.Observation.TheVariants as observed
use Rattle.bl_rob.specs.declared.entry.Entry.{Entry}
use Rattle.bl_rob.specs.declared.entry.Register.{Register}
use Rattle.bl_rob.specs.declared.entry.Work.{Work}
use Rattle.bl_rob.specs.declared.entry.Work.TheVariants.{Load, Ready}
use Rattle.bl_rob.proofs.BufferInvariant.{Kept, Ran, split}
use Rattle.bl_rob.proofs.PlainTracks.{Tracks, entry_at}
use Rattle.bl_rob.proofs.OtherGlobals.{with_globals, step_same}
use Rattle.bl_sct.proofs.StepAgreement.{AgreeIn}
use Rattle.bl_sct.proofs.Entries.{Same, equal, held, done, ready, SameAll, none, more, AlikeAt, clear_source, same_kinds, same_take, same_drop, same_append, valued_same}
use Rattle.bl_sct.proofs.Relation.{Rel, Twin, SameGet, no_entry, an_entry, same_get, runs_there, pair_of, clear_in, step_twins}
use Rattle.bl_sct.proofs.Rules.{Keeps, clear}
use Rattle.bl_sct.proofs.LockstepLemmas.{Twins}
use Rattle.bl_sct.proofs.EqualObservations.{equal_by}
use Rattle.bl_sct.proofs.OtherSecrets.{hides_by}
use Rattle.bl_sct.specs.OtherSecrets.{HidesGlobalsBy}
use Rattle.bl_sct.proofs.Loads.{opened_by}
use Rattle.bl_forward.specs.declared.find.Found.{Found}
use Rattle.bl_forward.specs.declared.find.Found.TheVariants.{Memory, Stored, Blocked}
use Rattle.bl_forward.specs.ForwardMachines.{meets, supplied, found_from, found_in, execution_by, execution_from, execution_of, plainly, stepped, exec_work, exec_at, forward_step, HasEqualForwarding}
use Rattle.bl_forward.specs.declared.load.Execution.{Execution}
use Rattle.bl_forward.specs.declared.load.Execution.TheVariants as execution
use Rattle.bl_forward.specs.declared.seen.Seen.{Seen}
use Rattle.bl_forward.specs.declared.seen.Seen.TheVariants.{Plain as Shown, Forward}
use Rattle.bl_forward.proofs.ForwardInvariant.{forward_ok}

-- ---- entries that differ in values alone forward alike

-- both are found in memory, or both in a store, or neither
abbrev FoundAlike : Found → Found → Type 0
FoundAlike Memory Memory = Unit {0}
FoundAlike (Stored v) (Stored w) = Unit {0}
FoundAlike Blocked Blocked = Unit {0}
FoundAlike Memory (Stored w) = ⊥
FoundAlike Memory Blocked = ⊥
FoundAlike (Stored v) Memory = ⊥
FoundAlike (Stored v) Blocked = ⊥
FoundAlike Blocked Memory = ⊥
FoundAlike Blocked (Stored w) = ⊥

supplies_alike : (b c : Bool) (v w : ℕ) (x y : Found) → FoundAlike x y
    → FoundAlike (if b then (if c then Stored v else Blocked) else x) (if b then (if c then Stored w else Blocked) else y)
supplies_alike true true v w x y h = tt
supplies_alike true false v w x y h = tt
supplies_alike false c v w x y h = h

module _ (clear : ℕ → Bool) (program : Program) (from width : ℕ) where
  by_equal : (e : Work) (x y : Found) → FoundAlike x y → FoundAlike (supplied program from width e x) (supplied program from width e y)
  by_equal (Ready kind memory offset address value) x y h =
      supplies_alike (meets (effective program memory offset address) (width_of kind) from width)
      (nat_eq (effective program memory offset address) from && nat_eq (width_of kind) width) (narrowed kind value) (narrowed kind value) x y h
  by_equal _ x y h = h

  by_same : (e f : Work) (x y : Found) → Same clear e f → FoundAlike x y → FoundAlike (supplied program from width e x) (supplied program from width f y)
  by_same e f x y (equal w) h = by_equal w x y h
  by_same e f x y (held to v w) h = h
  by_same e f x y (done to v w k) h = h
  by_same e f x y (ready kind memory offset address v w) h =
      supplies_alike (meets (effective program memory offset address) (width_of kind) from width)
      (nat_eq (effective program memory offset address) from && nat_eq (width_of kind) width) (narrowed kind v) (narrowed kind w) x y h

  found_alike : (es fs : List Entry) (x y : Found) → SameAll clear es fs → FoundAlike x y
      → FoundAlike (found_from program from width es x) (found_from program from width fs y)
  found_alike es fs x y none h = h
  found_alike es fs x y (more p e f gs hs s k m) h = found_alike gs hs (supplied program from width e x) (supplied program from width f y) m (by_same e f x y s h)

same_pending : (clear : ℕ → Bool) (e f : Work) → Same clear e f → is_pending e ≡ is_pending f
same_pending clear e f (equal w) = refl
same_pending clear e f _ = refl

pending_alike : (clear : ℕ → Bool) (es fs : List Entry) → SameAll clear es fs → has_pending es ≡ has_pending fs
pending_alike clear es fs none = refl
pending_alike clear es fs (more p e f gs hs s k m) =
    ap (λ b. b || has_pending gs) (same_pending clear e f s) ∙ ap (λ b. is_pending f || b) (pending_alike clear gs hs m)

-- ---- loads

plainly_twins : (R : State → State → Type 0) (o p : Option (State × Observation)) → Twin R o p → Twin R (plainly o) (plainly p)
plainly_twins R None None h = tt
plainly_twins R (Some a) (Some b) h = (ap Shown h.0, h.1)
plainly_twins R None (Some b) h = absurd h
plainly_twins R (Some a) None h = absurd h

module _ (clear : ℕ → Bool) (program : Program) (x y : Option (State × Seen)) (s t : State) (r : Rel clear s t) (n position : ℕ) (protect : Bool) (kind : AccessKind) (memory : ℕ)
    (to : Register) (offset : ℕ) (dark : protect ≡ false → IsTrue (clear to.var) → ⊥) where
  -- both loads' steps are alike
  abbrev ExecutionAlike : Execution → Execution → Type 0
  ExecutionAlike one other = Twin (Rel clear) (stepped x s n position one) (stepped y t n position other)

  fills_alike : (v w : ℕ) (a b : Seen) → a ≡ b → ExecutionAlike (execution.Fills (valued protect to v) a) (execution.Fills (valued protect to w) b)
  fills_alike v w a b e =
      let h = valued_same clear protect to v w (λ q c. absurd (dark q c)) in (
        e,
        record {
          entries = same_append clear _ _ _ _ (same_take clear n s.buffer t.buffer r.entries)
              (more position (valued protect to v) (valued protect to w) _ _ h.0 h.1 (same_drop clear (suc n) s.buffer t.buffer r.entries));
          front = r.front;
          retired = r.retired;
        },
      )

  found_executes : (from one other : ℕ) (v w : Found) → one ≡ other → FoundAlike v w
      → ExecutionAlike (execution_by s.space one protect kind to from (Some v)) (execution_by t.space other protect kind to from (Some w))
  found_executes from one other Memory Memory e h = fills_alike _ _ _ _ (ap (λ mask. Shown (observed.Read from mask)) e)
  found_executes from one other (Stored v) (Stored w) e h = fills_alike _ _ _ _ (ap (λ mask. Forward from mask) e)
  found_executes from one other Blocked Blocked e h = tt
  found_executes from one other Memory (Stored w) e h = absurd h
  found_executes from one other Memory Blocked e h = absurd h
  found_executes from one other (Stored v) Memory e h = absurd h
  found_executes from one other (Stored v) Blocked e h = absurd h
  found_executes from one other Blocked Memory e h = absurd h
  found_executes from one other Blocked (Stored w) e h = absurd h

  abbrev behind : ℕ → State → Bool → Execution
  behind from q pending =
      execution_by q.space (guards (take n q.buffer)) protect kind to from (if pending then None else Some (found_in program from (width_of kind) (take n q.buffer)))

  pending_executes : (from : ℕ) (b c : Bool) → b ≡ c → ExecutionAlike (behind from s b) (behind from t c)
  pending_executes from true true e = tt
  pending_executes from false false e =
      let m = same_take clear n s.buffer t.buffer r.entries in
      found_executes from _ _ _ _ (same_kinds clear (take n s.buffer) (take n t.buffer) m).guards_are
      (found_alike clear program from (width_of kind) (take n s.buffer) (take n t.buffer) Memory Memory m tt)
  pending_executes from true false e = cc
  pending_executes from false true e = cc

  abbrev from_address : State → Option ℕ → Execution
  from_address q = execution_from program q.space (take n q.buffer) protect kind memory to offset

  load_executes : (o p : Option ℕ) → AlikeAt true o p → ExecutionAlike (from_address s o) (from_address t p)
  load_executes None None h = tt
  load_executes (Some v) (Some w) h =
      subst (λ z. ExecutionAlike (from_address s (Some v)) (from_address t (Some z))) (h refl)
      (pending_executes (effective program memory offset v) _ _ (pending_alike clear (take n s.buffer) (take n t.buffer) (same_take clear n s.buffer t.buffer r.entries)))
  load_executes None (Some w) h = absurd h
  load_executes (Some v) None h = absurd h

-- ---- each directive

module _ (program : Program) (facts : IsProgram program) (rules : IsWellFormed program) (typing labelling : ℕ → Bool) (flows : Flows program typing (is_protected program))
    (ok : KeepsLabelRules program labelling) (from beside : Plain) (twins : Twins program facts rules labelling ok from beside) (most : ℕ) where
  abbrev fit : ℕ → Bool
  fit = clear program typing labelling flows ok

  module _ (s t : State) (i : Kept program from s) (j : Kept program beside t) (r : Rel fit s t) where
    -- with an entry, what is clear is equal in both
    agree_with : (n at : ℕ) (e : Work) → slice_get s.buffer n ≡ Some (entry_at at e) → AgreeIn fit s.registers t.registers
    agree_with n at e x depth z q =
        let c = i.config in
        let d = j.config in
        let tracks = subst (λ b. Tracks program b c s.front) (split s.buffer n (entry_at at e) x) i.inv.tracks in
        let pair = pair_of program facts rules typing labelling flows ok from beside twins s.retired c d
        (runs_there program (take n s.buffer) (drop (suc n) s.buffer) (entry_at at e) c s.front tracks) i.ran
        (subst (λ k. Ran program beside k d) (sym r.retired) j.ran) in
        ap (λ rs. rs depth z) i.inv.registers
        ∙ clear_in program facts rules typing labelling flows ok from beside twins c.registers d.registers pair.agrees.registers depth z q
        ∙ sym (ap (λ rs. rs depth z) j.inv.registers)

    plain_twins : (d : Directive) → Twin (Rel fit) (plainly (directive_step most program s d)) (plainly (directive_step most program t d))
    plain_twins d =
        plainly_twins (Rel fit) (directive_step most program s d) (directive_step most program t d)
        (step_twins program facts rules typing labelling flows ok from beside twins most s t d i j r)

    equal_twins : (n at : ℕ) (e : Work) → Keeps fit e → slice_get s.buffer n ≡ Some (entry_at at e)
        → Twin (Rel fit) (exec_work most program s n at e) (exec_work most program t n at e)
    equal_twins n at (Load protect kind memory to offset address) k x =
        load_executes fit program (plainly (directive_step most program s (Exec n))) (plainly (directive_step most program t (Exec n))) s t r n at protect kind memory to offset k.1 _ _
        (clear_source fit s.registers t.registers (take n s.buffer) (take n t.buffer) address k.0 (same_take fit n s.buffer t.buffer r.entries)
        (agree_with n at (Load protect kind memory to offset address) x))
    equal_twins n at _ k x = plain_twins (Exec n)

    work_twins : (n at : ℕ) (e f : Work) → Same fit e f → Keeps fit e → slice_get s.buffer n ≡ Some (entry_at at e)
        → Twin (Rel fit) (exec_work most program s n at e) (exec_work most program t n at f)
    work_twins n at e f (equal w) k x = equal_twins n at w k x
    work_twins n at e f _ k x = plain_twins (Exec n)

    exec_twins : (n : ℕ) (o p : Option Entry) → SameGet fit o p → slice_get s.buffer n ≡ o
        → Twin (Rel fit) (exec_at most program s n o) (exec_at most program t n p)
    exec_twins n o p no_entry x = tt
    exec_twins n o p (an_entry at e f u k) x = work_twins n at e f u k x

    pub forward_twins : (d : Directive) → Twin (Rel fit) (forward_step most program s d) (forward_step most program t d)
    forward_twins Fetch = plain_twins Fetch
    forward_twins (Predict predicted) = plain_twins (Predict predicted)
    forward_twins (Exec n) = exec_twins n (slice_get s.buffer n) (slice_get t.buffer n) (same_get fit n s.buffer t.buffer r.entries) refl
    forward_twins Retire = plain_twins Retire

pub forwards_equal : (program : Program) → IsProgram program → IsWellFormed program → ConstantTime program → Passes program (is_protected program) → HasEqualForwarding program
forwards_equal program facts rules =
    equal_by forward_step program facts rules (λ most. record {
      keeps = λ function start fits s d k. forward_ok program facts rules (plain_opening program function start) (opened_by program facts rules function start fits) most s d k;
      twins = λ typing labelling flows ok from beside twins s t d i j r.
          forward_twins program facts rules typing labelling flows ok from beside twins most s t i j r d;
    })

-- ---- other first values of globals

module _ (program : Program) (globals : List GlobalDef) (same : length globals ≡ length program.globals) where
  abbrev other : Program
  other = with_globals program globals same

  plain_same : (most : ℕ) (s : State) (d : Directive) → plainly (directive_step most other s d) ≡ plainly (directive_step most program s d)
  plain_same most s d = ap plainly (step_same program globals same most s d)

  from_same : (s : State) (entries : List Entry) (protect : Bool) (kind : AccessKind) (memory : ℕ) (to : Register) (offset : ℕ) (o : Option ℕ)
      → execution_from other s.space entries protect kind memory to offset o ≡ execution_from program s.space entries protect kind memory to offset o
  from_same s entries protect kind memory to offset None = refl
  from_same s entries protect kind memory to offset (Some address) = refl

  execution_same : (s : State) (entries : List Entry) (e : Work) → execution_of other s entries e ≡ execution_of program s entries e
  execution_same s entries (Load protect kind memory to offset address) = from_same s entries protect kind memory to offset (visible_of s.registers entries address)
  execution_same s entries _ = refl

  work_same : (most : ℕ) (s : State) (n position : ℕ) (e : Work) → exec_work most other s n position e ≡ exec_work most program s n position e
  work_same most s n position e i = stepped (plain_same most s (Exec n) i) s n position (execution_same s (take n s.buffer) e i)

  exec_same : (most : ℕ) (s : State) (n : ℕ) (o : Option Entry) → exec_at most other s n o ≡ exec_at most program s n o
  exec_same most s n None = refl
  exec_same most s n (Some e) = work_same most s n e.position e.work

  forward_same : (most : ℕ) (s : State) (d : Directive) → forward_step most other s d ≡ forward_step most program s d
  forward_same most s Fetch = plain_same most s Fetch
  forward_same most s (Predict predicted) = plain_same most s (Predict predicted)
  forward_same most s (Exec n) = exec_same most s n (slice_get s.buffer n)
  forward_same most s Retire = plain_same most s Retire

pub forwards_hide : (program : Program) → IsProgram program → IsWellFormed program → ConstantTime program → Passes program (is_protected program) → HidesGlobalsBy forward_step program
forwards_hide program facts rules =
    hides_by forward_step program facts rules (λ most. record {
      keeps = λ from r l s d k. forward_ok program facts rules from (record { reached = r; long = l }) most s d k;
      twins = λ typing labelling flows ok from beside twins s t d i j r.
          forward_twins program facts rules typing labelling flows ok from beside twins most s t i j r d;
      same = λ globals same s d. forward_same program globals same most s d;
    })
