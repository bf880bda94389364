-- What is observed as a read is the execution of a pending load; and what has nothing left to execute is never enabled.
use Rattle.std.proofs.Common.{◌≡◌, ◌≤◌, ℕ, zero, suc, Bool, true, false, List, [], ◌∷◌, Option, Some, None, take, refl, sym, ap, ◌∙◌, subst, arith}
use Rattle.std.specs.Prelude.{if◌then◌else◌, ◌&&◌, slice_get}
use Rattle.bl_base.specs.declared.number.Pos.{Pos}
use Rattle.bl_ops.specs.OperatorTable.{is_division}
use Rattle.bl_ops.specs.declared.op.Op.{Op}
use Rattle.bl_program.specs.declared.definitions.ProgramParts.{ProgramParts as Program}
use Rattle.bl_rob.specs.CallResults.{IsEntryKind, is_enabled, is_some, kind_of}
use Rattle.bl_rob.specs.Machines.{State, assigns, loads, stores, frees, judges, agree, truth, has_store, has_guard, acted, directive_step, exec_entry}
use Rattle.bl_rob.specs.declared.directive.Directive.TheVariants.{Exec}
use Rattle.bl_rob.specs.declared.directive.Kind.{Kind}
use Rattle.bl_rob.specs.declared.directive.Kind.TheVariants as kind
use Rattle.bl_rob.specs.declared.directive.Observation.TheVariants as seen
use Rattle.bl_rob.specs.declared.entry.Act.{Act}
use Rattle.bl_rob.specs.declared.entry.Act.TheVariants.{Becomes, RollsBack}
use Rattle.bl_rob.specs.declared.entry.Entry.{Entry}
use Rattle.bl_rob.specs.declared.entry.Work.{Work}
use Rattle.bl_rob.specs.declared.entry.Work.TheVariants.{Nop, Assign, Load, Held, Done, Store, Ready, Guard, Fail}
use Rattle.bl_rob.proofs.PlainTracks.{entry_at}
use Rattle.bl_predict.specs.Drives.{execution_at, execution_of, is_asked, is_load, is_read, shows_read}
use Rattle.bl_predict.specs.declared.choice.Readiness.{Readiness}
use Rattle.bl_predict.specs.declared.choice.Readiness.TheVariants.{Absent, Disabled, Enabled, Reading}

module _ (n : ℕ) (s : State) (x : Entry) where
  abbrev Mute : Act → Type 0
  Mute a = shows_read (acted n s x a) ≡ false

  divides : (b : Bool) (p q m : ℕ) → is_read (if b then seen.Divide p q m else seen.Nothing) ≡ false
  divides true p q m = refl
  divides false p q m = refl

  assigns_mute : (m : ℕ) (protect : Bool) (op : Op) (to : _) (a b c : Option ℕ) → Mute (assigns m protect op to a b c)
  assigns_mute m protect op to (Some a) (Some b) (Some c) = divides (is_division op) a b m
  assigns_mute m protect op to (Some a) (Some b) None = refl
  assigns_mute m protect op to (Some a) None c = refl
  assigns_mute m protect op to None b c = refl

  loads_read : (Q : Program) (space : List ℕ) (m : ℕ) (b protect : Bool) (kind : _) (memory : ℕ) (to : _) (offset : ℕ) (a : Option ℕ)
      → shows_read (acted n s x (loads Q space m b protect kind memory to offset a)) ≡ is_some (acted n s x (loads Q space m b protect kind memory to offset a))
  loads_read Q space m b protect kind memory to offset None = refl
  loads_read Q space m true protect kind memory to offset (Some a) = refl
  loads_read Q space m false protect kind memory to offset (Some a) = refl

  stores_mute : (Q : Program) (m : ℕ) (kind : _) (memory offset : ℕ) (a b : Option ℕ) → Mute (stores Q m kind memory offset a b)
  stores_mute Q m kind memory offset (Some a) (Some b) = refl
  stores_mute Q m kind memory offset (Some a) None = refl
  stores_mute Q m kind memory offset None b = refl

  frees_mute : (b : Bool) (to : _) (v : ℕ) → Mute (frees b to v)
  frees_mute true to v = refl
  frees_mute false to v = refl

  judged_mute : (b : Bool) → Mute (if b then Becomes Nop seen.Nothing else RollsBack)
  judged_mute true = refl
  judged_mute false = refl

  judges_mute : (predicted : Bool) (a : Option ℕ) → Mute (judges predicted a)
  judges_mute predicted None = refl
  judges_mute predicted (Some a) = judged_mute (agree predicted (truth a))

-- what is told of an execution by whether its entry is asked, whether it is enabled, and whether the entry loads
abbrev said : Bool → Bool → Bool → Readiness
said asked enabled loads = if asked && enabled then (if loads then Reading else Enabled) else Disabled

abbrev by_kind : Kind → Bool → Bool → Readiness
by_kind k wanted enabled = said (is_asked k wanted) enabled (is_load k)

abbrev told : Option (Pos × Kind) → Bool → Bool → Readiness
told None wanted enabled = Absent
told (Some x) wanted enabled = by_kind x.1 wanted enabled

module _ (Q : Program) (n : ℕ) (s : State) where
  pub reads_alone : (p : ℕ) (e : Work) → shows_read (exec_entry Q n s (Some (entry_at p e))) ≡ (if is_load (kind_of e) then is_some (exec_entry Q n s (Some (entry_at p e))) else false)
  reads_alone p Nop = refl
  reads_alone p (Assign protect op to a b c) = assigns_mute n s (entry_at p (Assign protect op to a b c)) _ protect op to _ _ _
  reads_alone p (Load protect kind memory to offset address) = loads_read n s (entry_at p (Load protect kind memory to offset address)) Q s.space _ (has_store (take n s.buffer)) protect kind memory to offset _
  reads_alone p (Held to value) = frees_mute n s (entry_at p (Held to value)) (has_guard (take n s.buffer)) to value
  reads_alone p (Done to value) = refl
  reads_alone p (Store kind memory offset address value) = stores_mute n s (entry_at p (Store kind memory offset address value)) Q _ kind memory offset _ _
  reads_alone p (Ready kind memory offset address value) = refl
  reads_alone p (Guard cond predicted other chain) = judges_mute n s (entry_at p (Guard cond predicted other chain)) predicted _
  reads_alone p (Fail kind) = refl

  -- what is never asked isn't enabled
  unasked : (p : ℕ) (e : Work) → is_asked (kind_of e) true ≡ false → is_some (exec_entry Q n s (Some (entry_at p e))) ≡ false
  unasked p Nop h = refl
  unasked p (Assign protect op to a b c) h = cc
  unasked p (Load protect kind memory to offset address) h = cc
  unasked p (Held to value) h = cc
  unasked p (Done to value) h = refl
  unasked p (Store kind memory offset address value) h = cc
  unasked p (Ready kind memory offset address value) h = refl
  unasked p (Guard cond predicted other chain) h = cc
  unasked p (Fail kind) h = refl

  idle : (b : Bool) → b && false ≡ false
  idle true = refl
  idle false = refl

  plain : (b : Bool) → execution_of false b ≡ (if b then Enabled else Disabled)
  plain true = refl
  plain false = refl

  loading : (wanted enabled : Bool) → execution_of enabled (wanted && enabled) ≡ (if enabled then Reading else Disabled)
  loading wanted true = refl
  loading wanted false = ap (execution_of false) (idle wanted)

  module _ (reads enabled wanted : Bool) where
    nothing : reads ≡ false → enabled ≡ false → execution_of reads (wanted && enabled) ≡ Disabled
    nothing r e = (λ i. execution_of (r i) (wanted && e i)) ∙ ap (execution_of false) (idle wanted)

    other : reads ≡ false → execution_of reads (wanted && enabled) ≡ (if wanted && enabled then Enabled else Disabled)
    other r = ap (λ b. execution_of b (wanted && enabled)) r ∙ plain (wanted && enabled)

    is_by_kind : (k : Kind) → reads ≡ (if is_load k then enabled else false) → (is_asked k true ≡ false → enabled ≡ false)
        → execution_of reads (wanted && enabled) ≡ by_kind k wanted enabled
    is_by_kind kind.Load r u = ap (λ b. execution_of b (wanted && enabled)) r ∙ loading wanted enabled
    is_by_kind kind.Nop r u = nothing r (u refl)
    is_by_kind kind.Assign r u = other r
    is_by_kind kind.Held r u = other r
    is_by_kind kind.Done r u = nothing r (u refl)
    is_by_kind kind.Store r u = other r
    is_by_kind kind.Ready r u = nothing r (u refl)
    is_by_kind (kind.Guard predicted) r u = other r
    is_by_kind kind.Fail r u = nothing r (u refl)

  is_told : (wanted : Bool) (o : Option Entry) (r : Option (Pos × Kind)) → IsEntryKind o r
      → execution_at Q s n wanted o ≡ told r wanted (is_some (exec_entry Q n s o))
  is_told wanted None None h = refl
  is_told wanted None (Some x) h = absurd h
  is_told wanted (Some e) None h = absurd h
  is_told wanted (Some e) (Some x) h =
      let step = exec_entry Q n s (Some e) in
      is_by_kind (shows_read step) (is_some step) wanted (kind_of e.work) (reads_alone e.position e.work) (unasked e.position e.work)
      ∙ ap (λ k. by_kind k wanted (is_some step)) (sym h.1)

-- what a look at an entry finds, by what the calls answer
module _ (Q : Program) (n : ℕ) (s : State) (wanted : Bool) (o : Option Entry) (r : Option (Pos × Kind)) (h : IsEntryKind o r) (x : Pos × Kind) (is : r ≡ Some x) where
  found : said (is_asked x.1 wanted) (is_some (exec_entry Q n s o)) (is_load x.1) ≡ execution_at Q s n wanted o
  found = sym (is_told Q n s wanted o r h ∙ ap (λ r. told r wanted (is_some (exec_entry Q n s o))) is)

  pub finds_unasked : is_asked x.1 wanted ≡ false → Disabled ≡ execution_at Q s n wanted o
  finds_unasked e = ap (λ b. said b (is_some (exec_entry Q n s o)) (is_load x.1)) (sym e) ∙ found

  pub finds_disabled : is_asked x.1 wanted ≡ true → is_some (exec_entry Q n s o) ≡ false → Disabled ≡ execution_at Q s n wanted o
  finds_disabled e d = (λ i. said (sym e i) (sym d i) (is_load x.1)) ∙ found

  pub finds_enabled : (loads : Bool) → is_asked x.1 wanted ≡ true → is_some (exec_entry Q n s o) ≡ true → is_load x.1 ≡ loads
      → (if loads then Reading else Enabled) ≡ execution_at Q s n wanted o
  finds_enabled loads e d l = (λ i. said (sym e i) (sym d i) (sym l i)) ∙ found

-- what is found at a place where there is an entry
abbrev pub IsEntry : Readiness → Type 0
IsEntry Absent = ⊥
IsEntry Disabled = Unit {0}
IsEntry Enabled = Unit {0}
IsEntry Reading = Unit {0}

module _ (Q : Program) (s : State) (n : ℕ) (wanted : Bool) where
  pub is_present : (o : Option Entry) (what : Readiness) → execution_at Q s n wanted o ≡ what → IsEntry what
      → execution_of (shows_read (exec_entry Q n s o)) (wanted && is_some (exec_entry Q n s o)) ≡ what
  is_present None what e h = absurd (subst IsEntry (sym e) h)
  is_present (Some entry) what e h = e

  pub is_absent : (o : Option Entry) → execution_at Q s n wanted o ≡ Absent → o ≡ None
  is_absent None e = refl
  is_absent (Some entry) e = absurd (some_said (shows_read (exec_entry Q n s (Some entry))) (wanted && is_some (exec_entry Q n s (Some entry))) e)
    where
      some_said : (a b : Bool) → execution_of a b ≡ Absent → ⊥
      some_said true b e = cc
      some_said false true e = cc
      some_said false false e = cc

-- behind a place without an entry there is none
past : (entries : List Entry) (n k : ℕ) → slice_get entries n ≡ None → n ≤ k → slice_get entries k ≡ None
past [] n k e le = refl
past (entry ∷ entries) zero k e le = cc
past (entry ∷ entries) (suc n) zero e le = absurd (omega (arith, le))
past (entry ∷ entries) (suc n) (suc k) e le = past entries n k e (omega (arith, le))

module _ (Q : Program) (s : State) (n : ℕ) (none : slice_get s.buffer n ≡ None) where
  pub reads_past : (k : ℕ) → n ≤ k → shows_read (directive_step 64 Q s (Exec k)) ≡ false
  reads_past k le = ap (λ o. shows_read (exec_entry Q k s o)) (past s.buffer n k none le)

  pub enabled_past : (k : ℕ) → n ≤ k → is_enabled 64 Q s (Exec k) ≡ false
  enabled_past k le = ap (λ o. is_some (exec_entry Q k s o)) (past s.buffer n k none le)
