-- Each directive keeps the buffer along the plain run, and the plain run where the machine's registers and memories are.
use Rattle.std.proofs.Common.{◌≡◌, ℕ, zero, suc, ◌+◌, Bool, true, false, List, [], ◌∷◌, ◌++◌, length, take, drop, Option, Some, None, refl, sym, ap, ◌∙◌, subst, arith}
use Rattle.std.specs.Prelude.{if◌then◌else◌, slice_get, nat_lt}
use Rattle.std.proofs.lemmas.List.{append-nil}
use Rattle.bl_base.specs.Quantity.{most_calls}
use Rattle.bl_base.specs.Runs.{Next, goes, ends, stuck, StepsTo, EndsAfter, last}
use Rattle.bl_base.proofs.RunLemmas.{comes_then, comes_to_end}
use Rattle.bl_base.specs.declared.start.Start.{Start}
use Rattle.bl_base.specs.declared.trap.Trap.{Trap}
use Rattle.bl_program.specs.Layout.{command_at}
use Rattle.bl_program.specs.Outcomes.{opening as plain_opening}
use Rattle.bl_program.specs.Steps.{Registers, Plain, plain_step}
use Rattle.bl_program.specs.declared.command.Command.{Command}
use Rattle.bl_program.specs.declared.command.Command.TheVariants as command
use Rattle.bl_program.specs.declared.definitions.ProgramParts.{ProgramParts as Program}
use Rattle.bl_rob.specs.Machines.{State, at_position, ended_at, opening, end_of, end_in, Fetched, Straight, Branch, Nowhere, fetched, fetched_from, before, grown, fetch, predict, act, rolled_back, acted, exec_entry, truth, agree, retire_work, retire, has_room, directive_step, outcome_by}
use Rattle.bl_rob.specs.Observations.{Rules, go_on, after_by, reached, IsConsistentBy, IsConsistent}
use Rattle.bl_rob.specs.declared.directive.Directive.{Directive}
use Rattle.bl_rob.specs.declared.directive.Directive.TheVariants.{Fetch, Predict, Exec, Retire}
use Rattle.bl_rob.specs.declared.directive.End.{End}
use Rattle.bl_rob.specs.declared.directive.End.TheVariants as ending
use Rattle.bl_rob.specs.declared.entry.Act.{Act}
use Rattle.bl_rob.specs.declared.entry.Act.TheVariants.{Idle, Becomes, RollsBack}
use Rattle.bl_rob.specs.declared.entry.Entry.{Entry}
use Rattle.bl_rob.specs.declared.entry.Source.{Source}
use Rattle.bl_rob.specs.declared.entry.Work.{Work}
use Rattle.bl_rob.specs.declared.entry.Work.TheVariants.{Nop, Done, Ready, Guard, Fail}
use Rattle.bl_rob.specs.declared.front.Front.{Front}
use Rattle.bl_rob.proofs.PlainTracks.{Config, value_in, registers_after, space_after, next_at, next, IsThere, Cases, Path, Stands, stands_there, stands_straight, Tracks, committed, Below, all_quiet, Along, go_along, entry_at, GoesBack, Acts, act_ok}
use Rattle.bl_rob.proofs.FetchedRuns.{config_of, state_of, Follows, follows}

-- ---- the buffer

pub record Inv (Q : Program) (c : Config) (s : State) : Type 0 where
  pub registers : s.registers ≡ c.registers
  pub space : s.space ≡ c.space
  pub tracks : Tracks Q s.buffer c s.front

abbrev pub Holds : {O : Type 0} → (State → Type 0) → Option (State × O) → Type 0
Holds P None = Unit {0}
Holds P (Some step) = P step.0

pub split : (xs : List Entry) (n : ℕ) (e : Entry) → slice_get xs n ≡ Some e → xs ≡ take n xs ++ e ∷ drop (suc n) xs
split [] n e h = cc
split (x ∷ xs) zero e h = let q : x ≡ e = cc in ap (λ y. y ∷ xs) q
split (x ∷ xs) (suc n) e h = ap (λ ys. x ∷ ys) (split xs n e h)

below_registers : (registers : Registers) (c : Config) → registers ≡ c.registers → Below (committed registers) c.registers
below_registers registers c e x = ap (λ rs. rs x.depth x.var) e

-- with as many entries retired as before
abbrev pub Stays : Program → Config → ℕ → State → Type 0
Stays Q c n t = (t.retired ≡ n) × Inv Q c t

module _ (Q : Program) (c : Config) (s : State) (i : Inv Q c s) where
  rolled_back_ok : (n p : ℕ) (pre post : List Entry) (work : Work) → pre ≡ take n s.buffer → Tracks Q (pre ++ entry_at p work ∷ post) c s.front
      → ((d : Config) → Along Q pre (committed s.registers) c d → Tracks Q (entry_at p work ∷ post) d s.front
      → GoesBack Q d work)
      → Stays Q c s.retired (rolled_back n p work s)
  rolled_back_ok n p pre post (Guard cond predicted other chain) e t k = (
    refl,
    record {
      registers = i.registers;
      space = i.space;
      tracks = subst (λ l. Tracks Q (l ++ entry_at p Nop ∷ []) c (at_position other chain)) e
          (go_along Q pre (entry_at p (Guard cond predicted other chain) ∷ post) (entry_at p Nop ∷ []) s.front (at_position other chain) c (committed s.registers)
          (below_registers s.registers c i.registers) t (λ d a v. k d a v p));
    },
  )
  rolled_back_ok n p pre post _ e t k = (refl, i)

  pub acted_ok : (n : ℕ) (pre post : List Entry) (e : Entry) (a : Act) → pre ≡ take n s.buffer → post ≡ drop (suc n) s.buffer
      → Tracks Q (pre ++ e ∷ post) c s.front
      → ((d : Config) → Along Q pre (committed s.registers) c d → Tracks Q (e ∷ post) d s.front
      → Acts Q d post s.front e.work a)
      → Holds (Stays Q c s.retired) (acted n s e a)
  acted_ok n pre post e Idle ep eq t k = tt
  acted_ok n pre post e (Becomes work observation) ep eq t k = (
    refl,
    record {
      registers = i.registers;
      space = i.space;
      tracks = subst (λ l. Tracks Q (l ++ entry_at e.position work ∷ drop (suc n) s.buffer) c s.front) ep
          (subst (λ l. Tracks Q (pre ++ entry_at e.position work ∷ l) c s.front) eq
          (go_along Q pre (e ∷ post) (entry_at e.position work ∷ post) s.front s.front c (committed s.registers)
          (below_registers s.registers c i.registers) t (λ d a v. k d a v e.position)));
    },
  )
  acted_ok n pre post e RollsBack ep eq t k = rolled_back_ok n e.position pre post e.work ep t k

  exec_ok : (n : ℕ) (o : Option Entry) → slice_get s.buffer n ≡ o → Holds (Stays Q c s.retired) (exec_entry Q n s o)
  exec_ok n None h = tt
  exec_ok n (Some e) h =
      let pre = take n s.buffer in
      let post = drop (suc n) s.buffer in
      acted_ok n pre post e (act Q s.registers s.space pre e.work) refl refl (subst (λ b. Tracks Q b c s.front) (split s.buffer n e h) i.tracks)
      (λ d a t. act_ok Q d post s.front s.registers s.space pre e a.below
      (λ q. let n = all_quiet Q pre c.space q in i.space ∙ sym (a.space n.0 ∙ n.1)) t)

  -- one more entry, where the plain run comes to the front end
  grown_ok : (work : Work) (f : Front) → ((d : Config) → s.front ≡ d.front → Tracks Q (entry_at s.front.position work ∷ []) d f)
      → Inv Q c (grown s work f)
  grown_ok work f k = record {
    registers = i.registers;
    space = i.space;
    tracks = go_along Q s.buffer [] (entry_at s.front.position work ∷ []) s.front f c (committed s.registers) (below_registers s.registers c i.registers)
        (subst (λ b. Tracks Q b c s.front) (sym (append-nil s.buffer)) i.tracks) (λ d a t. k d t);
  }

-- what is appended by Fetch: a fail has ended the front end, and a guard isn't
abbrev pub IsFresh : Work → Front → Type 0
IsFresh (Guard cond predicted other chain) f = ⊥
IsFresh (Fail kind) f = f.end ≡ Some (ending.Trapped kind)
IsFresh _ f = Unit {0}

abbrev pub IsFetched : Fetched → Type 0
IsFetched (Straight work f) = IsFresh work f
IsFetched (Branch cond one other) = Unit {0}
IsFetched Nowhere = Unit {0}

fresh_call : (Q : Program) (function position : ℕ) (chain : List ℕ) (few : Bool) (one other : Fetched) → IsFetched one → IsFetched other → IsFetched (if few then one else other)
fresh_call Q function position chain true one other a b = a
fresh_call Q function position chain false one other a b = b

fresh_of : (Q : Program) (position : ℕ) (chain : List ℕ) (o : Option Command) → IsFetched (fetched Q position chain o)
fresh_of Q position chain None = tt
fresh_of Q position chain (Some (command.Call function)) = fresh_call Q function position chain (nat_lt (suc (length chain)) most_calls) _ _ tt refl
fresh_of Q position chain (Some (command.Trap kind)) = refl
fresh_of Q position chain (Some _) = tt

fresh_from : (Q : Program) (front : Front) (end : Option End) → IsFetched (fetched_from Q front end)
fresh_from Q front None = fresh_of Q front.position front.chain (command_at Q front.position)
fresh_from Q front (Some end) = tt

path_fresh : (work : Work) (f : Front) → IsFresh work f → (c d : Config) (A : Type 0) → f ≡ d.front → A → Path work c d A
path_fresh (Guard cond predicted other chain) f h c d A q a = absurd h
path_fresh (Fail kind) f h c d A q a = (sym (ap (λ g. g.end) q) ∙ h, a)
path_fresh _ f h c d A q a = a

module _ (Q : Program) (c : Config) where
  fetch_ok : (room : Bool) (s : State) (x : Fetched) → before Q s.front ≡ x → IsFetched x → Inv Q c s → Holds (Stays Q c s.retired) (fetch room s x)
  fetch_ok true s (Straight work f) h fresh i = (
    refl,
    grown_ok Q c s i work f (λ d q.
        let p : before Q d.front ≡ Straight work f = sym (ap (λ y. before Q y) q) ∙ h in (
          subst (Stands work) (sym p) (stands_straight work f),
          ap (λ y. (next_at Q d y).registers) (sym p),
          ap (λ y. (next_at Q d y).space) (sym p),
          path_fresh work f fresh d (next Q d) _ (ap (λ y. (next_at Q d y).front) (sym p)) (ap (λ y. (next_at Q d y).front) (sym p)),
        )),
  )
  fetch_ok true s (Branch cond one other) h fresh i = tt
  fetch_ok true s Nowhere h fresh i = tt
  fetch_ok false s x h fresh i = tt

  branches : (t : Bool) (l r f : Front) → (if t then l else r) ≡ f → Cases (agree true t) (l ≡ f) (f ≡ r)
  branches true l r f h = h
  branches false l r f h = sym h

  branches_not : (t : Bool) (l r f : Front) → (if t then l else r) ≡ f → Cases (agree false t) (r ≡ f) (f ≡ l)
  branches_not true l r f h = sym h
  branches_not false l r f h = h

  -- where it is guessed that a branch goes to a position and not to another one
  guessed_ok : (predicted : Bool) (cond : Source) (one other to back : ℕ) (s : State) → before Q s.front ≡ Branch cond one other → Inv Q c s
      → ((t : Bool) (f : Front) → (if t then at_position one s.front.chain else at_position other s.front.chain) ≡ f → Cases (agree predicted t) (at_position to s.front.chain ≡ f) (f ≡ at_position back s.front.chain))
      → Inv Q c (grown s (Guard cond predicted back s.front.chain) (at_position to s.front.chain))
  guessed_ok predicted cond one other to back s h i cases =
      grown_ok Q c s i (Guard cond predicted back s.front.chain) (at_position to s.front.chain) (λ d q.
      let p : before Q d.front ≡ Branch cond one other = sym (ap (λ y. before Q y) q) ∙ h in
      let goes : (if truth (value_in d.registers cond) then at_position one s.front.chain else at_position other s.front.chain) ≡ (next Q d).front =
      ap (λ g. if truth (value_in d.registers cond) then at_position one g.chain else at_position other g.chain) q ∙ ap (λ y. (next_at Q d y).front) (sym p) in (
        subst IsThere (sym p) tt,
        ap (λ y. (next_at Q d y).registers) (sym p),
        ap (λ y. (next_at Q d y).space) (sym p),
        cases (truth (value_in d.registers cond)) _ goes,
      ))

  predict_ok : (room predicted : Bool) (s : State) (x : Fetched) → before Q s.front ≡ x → Inv Q c s → Holds (Stays Q c s.retired) (predict room predicted s x)
  predict_ok true true s (Branch cond one other) h i = (refl, guessed_ok true cond one other one other s h i (λ t. branches t _ _))
  predict_ok true false s (Branch cond one other) h i = (refl, guessed_ok false cond one other other one s h i (λ t. branches_not t _ _))
  predict_ok true predicted s (Straight work f) h i = tt
  predict_ok true predicted s Nowhere h i = tt
  predict_ok false predicted s x h i = tt

-- ---- retiring

-- nothing is there where the front end has ended
there_from : (Q : Program) (front : Front) (end : Option End) → IsThere (fetched_from Q front end) → end ≡ None
there_from Q front None h = refl
there_from Q front (Some end) h = absurd h

pub is_running : (Q : Program) (front : Front) → IsThere (before Q front) → front.end ≡ None
is_running Q front h = there_from Q front front.end h

-- behind a fail nothing stands
after_fail : (Q : Program) (kind : Trap) (es : List Entry) (d : Config) (f : Front) → d.front.end ≡ Some (ending.Trapped kind) → Tracks Q es d f → f ≡ d.front
after_fail Q kind [] d f h t = t
after_fail Q kind (e ∷ es) d f h t = let r = is_running Q d.front (stands_there e.work (before Q d.front) t.0) in cc

-- the plain run has come to the next command
abbrev pub Moves : Program → Config → ℕ → State → Type 0
Moves Q c n t = (t.retired ≡ suc n) × IsThere (before Q c.front) × Inv Q (next Q c) t

failed_at : (f : Front) (end : End) → f.end ≡ Some end → ended_at f.position f.chain end ≡ f
failed_at f end e = ap (λ (x : Option End). record { position = f.position; chain = f.chain; end = x }) (sym e)

module _ (Q : Program) (c : Config) (s : State) (r : s.registers ≡ c.registers) (m : s.space ≡ c.space) where
  same_registers : (work : Work) → registers_after Q work s.registers s.space ≡ registers_after Q work c.registers c.space
  same_registers work = ap (λ x. registers_after Q work x s.space) r ∙ ap (λ x. registers_after Q work c.registers x) m

  same_space : (work : Work) → space_after Q work s.registers s.space ≡ space_after Q work c.registers c.space
  same_space work = ap (λ x. space_after Q work x s.space) r ∙ ap (λ x. space_after Q work c.registers x) m

  retire_ok : (es : List Entry) (work : Work) → Tracks Q (entry_at 0 work ∷ es) c s.front → Holds (Moves Q c s.retired) (retire_work Q s es work)
  retire_ok es Nop t = (refl, t.0, record { registers = r ∙ t.1; space = m ∙ t.2; tracks = t.3 })
  retire_ok es (Done to value) t = (refl, t.0, record { registers = same_registers (Done to value) ∙ t.1; space = m ∙ t.2; tracks = t.3 })
  retire_ok es (Ready kind memory offset address value) t =
      (refl, t.0, record { registers = r ∙ t.1; space = same_space (Ready kind memory offset address value) ∙ t.2; tracks = t.3 })
  retire_ok es (Fail kind) t =
      let is = after_fail Q kind es (next Q c) s.front t.3.0 t.3.1 in
      let end : s.front.end ≡ Some (ending.Trapped kind) = ap (λ (f : Front). f.end) is ∙ t.3.0 in
      (refl, t.0, record { registers = r ∙ t.1; space = m ∙ t.2; tracks = failed_at s.front (ending.Trapped kind) end ∙ is })
  retire_ok es _ t = tt

  retire_all : (b : List Entry) → Tracks Q b c s.front → Holds (Moves Q c s.retired) (retire Q s b)
  retire_all [] t = tt
  retire_all (e ∷ es) t = retire_ok es e.work t

-- ---- the plain run

-- where the plain run is after so many commands
pub data Ran (Q : Program) (from : Plain) (n : ℕ) (c : Config) : Type 0 where
  runs : (t : Plain) → c ≡ config_of t → StepsTo (plain_step Q) n from t → Ran Q from n c
  ended : (t : Plain) (end : End) (before : ℕ) → n ≡ suc before → StepsTo (plain_step Q) before from t → c.registers ≡ t.registers → c.space ≡ t.space
      → c.front.end ≡ Some end → EndsAfter (plain_step Q) n from (outcome_by Q (state_of c) end) → Ran Q from n c

module _ (Q : Program) (from : Plain) where
  one_more : (n : ℕ) (t : Plain) (there : Type 0) (d : Config) (x : Next Plain) → plain_step Q t ≡ x → StepsTo (plain_step Q) n from t → there → Follows Q t d there x
      → Ran Q from (suc n) d
  one_more n t there d (goes u) e comes h f =
      let next : n + 1 ≡ suc n = omega arith in
      runs u f (subst (λ k. StepsTo (plain_step Q) k from u) next (comes_then (plain_step Q) n 1 from t u comes (u, e, refl)))
  one_more n t there d (ends outcome) e comes h f =
      let next : n + 1 ≡ suc n = omega arith in
      ended t f.end n refl comes f.registers f.space f.front
      (subst (λ k. EndsAfter (plain_step Q) k from (outcome_by Q (state_of d) f.end)) next
      (comes_to_end (plain_step Q) n 1 from t (outcome_by Q (state_of d) f.end) comes (last t _ (e ∙ ap ends f.outcome_is))))
  one_more n t there d stuck e comes h f = absurd (f h)

  pub moves_on : (n : ℕ) (c : Config) → IsThere (before Q c.front) → Ran Q from n c → Ran Q from (suc n) (next Q c)
  moves_on n c h (runs t is comes) =
      let h' : IsThere (before Q (config_of t).front) = subst (λ (x : Config). IsThere (before Q x.front)) is h in
      subst (λ x. Ran Q from (suc n) (next Q x)) (sym is)
      (one_more n t (IsThere (before Q (config_of t).front)) (next Q (config_of t)) (plain_step Q t) refl comes h' (follows Q t))
  moves_on n c h (ended t end before e comes r m is run) = let no = is_running Q c.front h in cc

  -- the machine's state is where the plain run is
  pub record Kept (s : State) : Type 0 where
    pub config : Config
    pub inv : Inv Q config s
    pub ran : Ran Q from s.retired config

  pub stays : {O : Type 0} (c : Config) (n : ℕ) (o : Option (State × O)) → Ran Q from n c → Holds (Stays Q c n) o → Holds Kept o
  stays c n None ran h = tt
  stays c n (Some step) ran h = record { config = c; inv = h.1; ran = subst (λ k. Ran Q from k c) (sym h.0) ran }

  moved : {O : Type 0} (c : Config) (n : ℕ) (o : Option (State × O)) → Ran Q from n c → Holds (Moves Q c n) o → Holds Kept o
  moved c n None ran h = tt
  moved c n (Some step) ran h = record { config = next Q c; inv = h.2; ran = subst (λ k. Ran Q from k (next Q c)) (sym h.0) (moves_on n c h.1 ran) }

  pub step_ok : (most : ℕ) (s : State) (d : Directive) → Kept s → Holds Kept (directive_step most Q s d)
  step_ok most s Fetch k =
      stays k.config s.retired (directive_step most Q s Fetch) k.ran
      (fetch_ok Q k.config (has_room most s) s (before Q s.front) refl (fresh_from Q s.front s.front.end) k.inv)
  step_ok most s (Predict predicted) k =
      stays k.config s.retired (directive_step most Q s (Predict predicted)) k.ran
      (predict_ok Q k.config (has_room most s) predicted s (before Q s.front) refl k.inv)
  step_ok most s (Exec n) k = stays k.config s.retired (directive_step most Q s (Exec n)) k.ran (exec_ok Q k.config s k.inv n (slice_get s.buffer n) refl)
  step_ok most s Retire k =
      moved k.config s.retired (directive_step most Q s Retire) k.ran (retire_all Q k.config s k.inv.registers k.inv.space s.buffer k.inv.tracks)

  behind_ok : {O : Type 0} (rest : State → State) (s : State) (o : Option (State × O)) → Kept s → ((t : State) → Kept t → Kept (rest t)) → Holds Kept o → Kept (go_on rest s o)
  behind_ok rest s None here go h = here
  behind_ok rest s (Some step) here go h = go step.0 h

  -- any rules whose steps keep it
  module _ {O : Type 0} (stepped : Rules O) (ok : (s : State) (d : Directive) → Kept s → Holds Kept (stepped s d)) where
    pub all_kept : (directives : List Directive) (s : State) → Kept s → Kept (after_by stepped directives s)
    all_kept [] s k = k
    all_kept (d ∷ directives) s k = behind_ok (after_by stepped directives) s (stepped s d) k (λ t h. all_kept directives t h) (ok s d k)

  -- ---- consistency

  same_outcome : (s : State) (c : Config) (end : End) → s.registers ≡ c.registers → s.space ≡ c.space → s.front ≡ c.front
      → outcome_by Q (state_of c) end ≡ outcome_by Q s end
  same_outcome s c ending.Returned r m f = rw (r, m, f) refl
  same_outcome s c (ending.Trapped kind) r m f = rw (r, m) refl

  there_of : (e : Entry) (es : List Entry) (c : Config) (f : Front) → Tracks Q (e ∷ es) c f → c.front.end ≡ None
  there_of e es c f t = is_running Q c.front (stands_there e.work (before Q c.front) t.0)

  finish : (s : State) (c : Config) (b : List Entry) (end : Option End) → s.registers ≡ c.registers → s.space ≡ c.space → Tracks Q b c s.front
      → end_of b s.front ≡ end → Ran Q from s.retired c → IsConsistentBy Q from s end
  finish s c b None r m t h (runs p is comes) =
      record { plain = p; comes = comes; alike = record { registers = r ∙ ap (λ (x : Config). x.registers) is; space = m ∙ ap (λ (x : Config). x.space) is } }
  finish s c [] (Some end) r m t h (runs p is comes) =
      let a : s.front.end ≡ None = ap (λ (f : Front). f.end) t ∙ ap (λ (x : Config). x.front.end) is in cc
  finish s c (e ∷ es) (Some end) r m t h (runs p is comes) = cc
  finish s c [] None r m t h (ended p end before e comes r' m' is run) = let a : s.front.end ≡ c.front.end = ap (λ (f : Front). f.end) t in cc
  finish s c (x ∷ es) None r m t h (ended p end before e comes r' m' is run) = let a = there_of x es c s.front t in cc
  finish s c [] (Some end') r m t h (ended p end before e comes r' m' is run) =
      let a : s.front.end ≡ c.front.end = ap (λ (f : Front). f.end) t in
      let same : end ≡ end' = cc in
      record {
        before = before;
        last = e;
        comes = record { plain = p; comes = comes; alike = record { registers = r ∙ r'; space = m ∙ m' } };
        outcome = subst (λ o. EndsAfter (plain_step Q) s.retired from o) (same_outcome s c end r m t ∙ ap (λ x. outcome_by Q s x) same) run;
      }
  finish s c (x ∷ es) (Some end') r m t h (ended p end before e comes r' m' is run) = cc

  pub kept_consistent : (s : State) → Kept s → IsConsistent Q from s
  kept_consistent s k = finish s k.config s.buffer (end_in s) k.inv.registers k.inv.space k.inv.tracks refl k.ran

-- the opening is where the plain run begins
pub opening_kept : (program : Program) (function : ℕ) (start : Start) → Kept program (plain_opening program function start) (opening program function start)
opening_kept program function start =
    let from = plain_opening program function start in
    record { config = config_of from; inv = record { registers = refl; space = refl; tracks = refl }; ran = runs from refl refl }

pub consistent : (most : ℕ) (program : Program) (function : ℕ) (start : Start) (directives : List Directive)
    → IsConsistent program (plain_opening program function start) (reached most program function start directives)
consistent most program function start directives =
    let from = plain_opening program function start in
    kept_consistent program from (reached most program function start directives)
    (all_kept program from (directive_step most program) (step_ok program from most) directives (opening program function start) (opening_kept program function start))
