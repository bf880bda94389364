-- Machines that are observed alike keep the same outline.
use Rattle.std.proofs.Common.{◌≡◌, ℕ, zero, suc, Bool, true, false, List, [], ◌∷◌, ◌++◌, take, drop, Option, Some, None, refl, sym, ap, ◌∙◌, subst}
use Rattle.std.specs.Prelude.{if◌then◌else◌, slice_get}
use Rattle.bl_ops.specs.OperatorTable.{is_division}
use Rattle.bl_ops.specs.declared.access.AccessKind.{AccessKind}
use Rattle.bl_ops.specs.declared.op.Op.{Op}
use Rattle.bl_program.specs.Steps.{Registers}
use Rattle.bl_program.specs.declared.definitions.ProgramParts.{ProgramParts as Program}
use Rattle.bl_rob.specs.Machines.{State, Fetched, Straight, Branch, Nowhere, at_position, ended_at, before, grown, fetch, guess, predict, rolled_back, acted, exec_entry, retire_work, retire, has_room, has_guard, has_store, guards as mask_of, valued, assigns, loads, stores, frees, judges, agree, truth, act, directive_step}
use Rattle.bl_rob.specs.Observations.{go_on, after, Observed, see, observed_from}
use Rattle.bl_rob.specs.declared.directive.Directive.{Directive}
use Rattle.bl_rob.specs.declared.directive.Directive.TheVariants.{Fetch, Predict, Exec, Retire}
use Rattle.bl_rob.specs.declared.directive.End.TheVariants as ending
use Rattle.bl_rob.specs.declared.directive.Observation.{Observation}
use Rattle.bl_rob.specs.declared.directive.Observation.TheVariants as seen
use Rattle.bl_rob.specs.declared.entry.Act.{Act}
use Rattle.bl_rob.specs.declared.entry.Act.TheVariants.{Idle, Becomes, RollsBack}
use Rattle.bl_rob.specs.declared.entry.Entry.{Entry}
use Rattle.bl_rob.specs.declared.entry.Register.{Register}
use Rattle.bl_rob.specs.declared.entry.Work.{Work}
use Rattle.bl_rob.specs.declared.entry.Work.TheVariants.{Nop, Assign, Load, Held, Done, Store, Ready, Guard, Fail}
use Rattle.bl_rob.proofs.PlainTracks.{entry_at}
use Rattle.bl_predict.specs.Outlines.{IsOther, SameGuess, guards, fails, others, SameOutlines, none, more, Outline}

-- both are enabled and observed alike, so the relation holds behind them
abbrev pub Both : (State → State → Type 0) → Option (State × Observation) → Option (State × Observation) → Type 0
Both R None b = Unit {0}
Both R (Some a) None = Unit {0}
Both R (Some a) (Some b) = a.1 ≡ b.1 → R a.0 b.0

same_self : (e : Work) → SameGuess e e
same_self Nop = others Nop Nop tt tt
same_self (Assign protect op to a b c) = others (Assign protect op to a b c) (Assign protect op to a b c) tt tt
same_self (Load protect kind memory to offset address) = others (Load protect kind memory to offset address) (Load protect kind memory to offset address) tt tt
same_self (Held to value) = others (Held to value) (Held to value) tt tt
same_self (Done to value) = others (Done to value) (Done to value) tt tt
same_self (Store kind memory offset address value) = others (Store kind memory offset address value) (Store kind memory offset address value) tt tt
same_self (Ready kind memory offset address value) = others (Ready kind memory offset address value) (Ready kind memory offset address value) tt tt
same_self (Guard cond predicted other chain) = guards cond predicted other chain
same_self (Fail kind) = fails kind

same_take : (n : ℕ) (es fs : List Entry) → SameOutlines es fs → SameOutlines (take n es) (take n fs)
same_take zero es fs m = none
same_take (suc n) es fs none = none
same_take (suc n) es fs (more p e f gs hs s m) = more p e f _ _ s (same_take n gs hs m)

same_drop : (n : ℕ) (es fs : List Entry) → SameOutlines es fs → SameOutlines (drop n es) (drop n fs)
same_drop zero es fs m = m
same_drop (suc n) es fs none = none
same_drop (suc n) es fs (more p e f gs hs s m) = same_drop n gs hs m

same_append : (xs ys es fs : List Entry) → SameOutlines xs ys → SameOutlines es fs → SameOutlines (xs ++ es) (ys ++ fs)
same_append xs ys es fs none m = m
same_append xs ys es fs (more p e f gs hs s r) m = more p e f _ _ s (same_append gs hs es fs r m)

pub data SameGet : Option Entry → Option Entry → Type 0 where
  no_entry : SameGet None None
  an_entry : (p : ℕ) (e f : Work) → SameGuess e f → SameGet (Some (entry_at p e)) (Some (entry_at p f))

pub same_get : (n : ℕ) (es fs : List Entry) → SameOutlines es fs → SameGet (slice_get es n) (slice_get fs n)
same_get n es fs none = no_entry
same_get zero es fs (more p e f gs hs s m) = an_entry p e f s
same_get (suc n) es fs (more p e f gs hs s m) = same_get n gs hs m

-- ---- fetching

grown_both : (s t : State) (e : Work) (f : _) → Outline s t → Outline (grown s e f) (grown t e f)
grown_both s t e f r = record {
  entries = subst (λ g. SameOutlines (s.buffer ++ entry_at s.front.position e ∷ []) (t.buffer ++ entry_at g.position e ∷ [])) r.front
      (same_append s.buffer t.buffer _ _ r.entries (more s.front.position e e [] [] (same_self e) none));
  front = refl;
}

fetch_both : (a b : Bool) (s t : State) (x : Fetched) → Outline s t → Both Outline (fetch a s x) (fetch b t x)
fetch_both true true s t (Straight work front) r = λ _. grown_both s t work front r
fetch_both true false s t (Straight work front) r = tt
fetch_both true b s t (Branch cond one other) r = tt
fetch_both true b s t Nowhere r = tt
fetch_both false b s t x r = tt

predict_both : (a b predicted : Bool) (s t : State) (x : Fetched) → Outline s t → Both Outline (predict a predicted s x) (predict b predicted t x)
predict_both true true true s t (Branch cond one other) r = λ _.
    subst (λ f. Outline (guess true s cond one other) (grown t (Guard cond true other f.chain) (at_position one f.chain))) r.front
    (grown_both s t (Guard cond true other s.front.chain) (at_position one s.front.chain) r)
predict_both true true false s t (Branch cond one other) r = λ _.
    subst (λ f. Outline (guess false s cond one other) (grown t (Guard cond false one f.chain) (at_position other f.chain))) r.front
    (grown_both s t (Guard cond false one s.front.chain) (at_position other s.front.chain) r)
predict_both true false predicted s t (Branch cond one other) r = tt
predict_both true b predicted s t (Straight work front) r = tt
predict_both true b predicted s t Nowhere r = tt
predict_both false b predicted s t x r = tt

-- ---- executing

abbrev IsGuard : Work → Type 0
IsGuard Nop = ⊥
IsGuard (Assign protect op to a b c) = ⊥
IsGuard (Load protect kind memory to offset address) = ⊥
IsGuard (Held to value) = ⊥
IsGuard (Done to value) = ⊥
IsGuard (Store kind memory offset address value) = ⊥
IsGuard (Ready kind memory offset address value) = ⊥
IsGuard (Guard cond predicted other chain) = Unit {0}
IsGuard (Fail kind) = ⊥

abbrev IsQuiet : Observation → Type 0
IsQuiet (seen.Rollback n) = ⊥
IsQuiet o = Unit {0}

-- what an act can be
abbrev Fits : Work → Act → Type 0
Fits e Idle = Unit {0}
Fits e (Becomes w o) = IsOther w × IsQuiet o
Fits e RollsBack = IsGuard e

valued_other : (protect : Bool) (to : Register) (v : ℕ) → IsOther (valued protect to v)
valued_other true to v = tt
valued_other false to v = tt

quiet_if : (b : Bool) (x y mask : ℕ) → IsQuiet (if b then seen.Divide x y mask else seen.Nothing)
quiet_if true x y mask = tt
quiet_if false x y mask = tt

assigns_fit : (e : Work) (mask : ℕ) (protect : Bool) (op : Op) (to : Register) (a b c : Option ℕ) → Fits e (assigns mask protect op to a b c)
assigns_fit e mask protect op to (Some a) (Some b) (Some c) = (valued_other protect to _, quiet_if (is_division op) a b mask)
assigns_fit e mask protect op to (Some a) (Some b) None = tt
assigns_fit e mask protect op to (Some a) None c = tt
assigns_fit e mask protect op to None b c = tt

loads_fit : (e : Work) (Q : Program) (m : List ℕ) (mask : ℕ) (passes protect : Bool) (kind : AccessKind) (memory : ℕ) (to : Register) (offset : ℕ) (a : Option ℕ)
    → Fits e (loads Q m mask passes protect kind memory to offset a)
loads_fit e Q m mask false protect kind memory to offset (Some a) = (valued_other protect to _, tt)
loads_fit e Q m mask true protect kind memory to offset (Some a) = tt
loads_fit e Q m mask passes protect kind memory to offset None = tt

stores_fit : (e : Work) (Q : Program) (mask : ℕ) (kind : AccessKind) (memory offset : ℕ) (a b : Option ℕ) → Fits e (stores Q mask kind memory offset a b)
stores_fit e Q mask kind memory offset (Some a) (Some b) = (tt, tt)
stores_fit e Q mask kind memory offset (Some a) None = tt
stores_fit e Q mask kind memory offset None b = tt

frees_fit : (e : Work) (b : Bool) (to : Register) (v : ℕ) → Fits e (frees b to v)
frees_fit e true to v = tt
frees_fit e false to v = (tt, tt)

judged_fit : (e : Work) → IsGuard e → (b : Bool) → Fits e (if b then Becomes Nop seen.Nothing else RollsBack)
judged_fit e g true = (tt, tt)
judged_fit e g false = g

judges_fit : (e : Work) → IsGuard e → (predicted : Bool) (a : Option ℕ) → Fits e (judges predicted a)
judges_fit e g predicted None = tt
judges_fit e g predicted (Some a) = judged_fit e g (agree predicted (truth a))

act_fits : (Q : Program) (rs : Registers) (m : List ℕ) (pre : List Entry) (e : Work) → Fits e (act Q rs m pre e)
act_fits Q rs m pre Nop = tt
act_fits Q rs m pre (Assign protect op to a b c) = assigns_fit (Assign protect op to a b c) (mask_of pre) protect op to _ _ _
act_fits Q rs m pre (Load protect kind memory to offset address) = loads_fit (Load protect kind memory to offset address) Q m (mask_of pre) (has_store pre) protect kind memory to offset _
act_fits Q rs m pre (Held to value) = frees_fit (Held to value) (has_guard pre) to value
act_fits Q rs m pre (Done to value) = tt
act_fits Q rs m pre (Store kind memory offset address value) = stores_fit (Store kind memory offset address value) Q (mask_of pre) kind memory offset _ _
act_fits Q rs m pre (Ready kind memory offset address value) = tt
act_fits Q rs m pre (Guard cond predicted other chain) = judges_fit (Guard cond predicted other chain) tt predicted _
act_fits Q rs m pre (Fail kind) = tt

no_guard : (e : Work) → IsOther e → IsGuard e → ⊥
no_guard (Guard cond predicted other chain) i g = i
no_guard e i g = g

rolled_back_both : (n p : ℕ) (e f : Work) (s t : State) → IsGuard e → SameGuess e f → Outline s t → Outline (rolled_back n p e s) (rolled_back n p f t)
rolled_back_both n p e f s t g (guards cond predicted other chain) r =
    record { entries = same_append _ _ _ _ (same_take n s.buffer t.buffer r.entries) (more p Nop Nop [] [] (same_self Nop) none); front = refl }
rolled_back_both n p e f s t g (fails kind) r = absurd g
rolled_back_both n p e f s t g (others a b i j) r = absurd (no_guard a i g)

loud : (o : Observation) (n : ℕ) → IsQuiet o → o ≡ seen.Rollback n → ⊥
loud o n q e = subst IsQuiet e q

acted_both : (n p : ℕ) (e f : Work) (s t : State) (a b : Act) → Fits e a → Fits f b → SameGuess e f → Outline s t
    → Both Outline (acted n s (entry_at p e) a) (acted n t (entry_at p f) b)
acted_both n p e f s t Idle b h k g r = tt
acted_both n p e f s t (Becomes x o) Idle h k g r = tt
acted_both n p e f s t RollsBack Idle h k g r = tt
acted_both n p e f s t (Becomes x o) (Becomes y q) h k g r = λ _. record {
  entries = same_append _ _ _ _ (same_take n s.buffer t.buffer r.entries)
      (more p x y _ _ (others x y h.0 k.0) (same_drop (suc n) s.buffer t.buffer r.entries));
  front = r.front;
}
acted_both n p e f s t RollsBack RollsBack h k g r = λ _. rolled_back_both n p e f s t h g r
acted_both n p e f s t (Becomes x o) RollsBack h k g r = λ is. absurd (loud o n h.1 is)
acted_both n p e f s t RollsBack (Becomes y q) h k g r = λ is. absurd (loud q n k.1 (sym is))

exec_both : (Q : Program) (n : ℕ) (s t : State) (o p : Option Entry) → SameGet o p → Outline s t → Both Outline (exec_entry Q n s o) (exec_entry Q n t p)
exec_both Q n s t o p no_entry r = tt
exec_both Q n s t o p (an_entry at e f g) r =
    acted_both n at e f s t _ _ (act_fits Q s.registers s.space (take n s.buffer) e) (act_fits Q t.registers t.space (take n t.buffer) f) g r

-- ---- retiring

abbrev Drops : State → List Entry → Option (State × Observation) → Type 0
Drops s es None = Unit {0}
Drops s es (Some x) = (x.0.buffer ≡ es) × (x.0.front ≡ s.front)

drops : (Q : Program) (s : State) (es : List Entry) (e : Work) → IsOther e → Drops s es (retire_work Q s es e)
drops Q s es Nop i = (refl, refl)
drops Q s es (Assign protect op to a b c) i = tt
drops Q s es (Load protect kind memory to offset address) i = tt
drops Q s es (Held to value) i = tt
drops Q s es (Done to value) i = (refl, refl)
drops Q s es (Store kind memory offset address value) i = tt
drops Q s es (Ready kind memory offset address value) i = (refl, refl)
drops Q s es (Guard cond predicted other chain) i = absurd i
drops Q s es (Fail kind) i = absurd i

dropped : (s t : State) (es fs : List Entry) (a b : Option (State × Observation)) → Drops s es a → Drops t fs b → s.front ≡ t.front → SameOutlines es fs → Both Outline a b
dropped s t es fs None b h k f m = tt
dropped s t es fs (Some a) None h k f m = tt
dropped s t es fs (Some a) (Some b) h k f m = λ _. record {
  entries = subst (λ x. SameOutlines x b.0.buffer) (sym h.0) (subst (λ y. SameOutlines es y) (sym k.0) m);
  front = h.1 ∙ f ∙ sym k.1;
}

retire_both : (Q : Program) (s t : State) (es fs : List Entry) → s.front ≡ t.front → SameOutlines es fs → Both Outline (retire Q s es) (retire Q t fs)
retire_both Q s t es fs f none = tt
retire_both Q s t es fs f (more p e g gs hs (guards cond predicted other chain) m) = tt
retire_both Q s t es fs f (more p e g gs hs (fails kind) m) = λ _.
    record { entries = none; front = ap (λ x. ended_at x.position x.chain (ending.Trapped kind)) f }
retire_both Q s t es fs f (more p e g gs hs (others a b i j) m) = dropped s t gs hs _ _ (drops Q s gs a i) (drops Q t hs b j) f m

-- ---- directives

pub step_both : (most : ℕ) (Q : Program) (s t : State) (d : Directive) → Outline s t → Both Outline (directive_step most Q s d) (directive_step most Q t d)
step_both most Q s t Fetch r =
    subst (λ f. Both Outline (directive_step most Q s Fetch) (fetch (has_room most t) t (before Q f))) r.front
    (fetch_both (has_room most s) (has_room most t) s t (before Q s.front) r)
step_both most Q s t (Predict predicted) r =
    subst (λ f. Both Outline (directive_step most Q s (Predict predicted)) (predict (has_room most t) predicted t (before Q f))) r.front
    (predict_both (has_room most s) (has_room most t) predicted s t (before Q s.front) r)
step_both most Q s t (Exec n) r = exec_both Q n s t (slice_get s.buffer n) (slice_get t.buffer n) (same_get n s.buffer t.buffer r.entries) r
step_both most Q s t Retire r = retire_both Q s t s.buffer t.buffer r.front r.entries

go_both : (place : ℕ) (s t : State) (see_one see_other : State → Observed Observation) (rest_one rest_other : State → State) (a b : Option (State × Observation))
    → Outline s t → Both Outline a b → see see_one place a ≡ see see_other place b
    → ((u v : State) → Outline u v → see_one u ≡ see_other v → Outline (rest_one u) (rest_other v))
    → Outline (go_on rest_one s a) (go_on rest_other t b)
go_both place s t see_one see_other rest_one rest_other None None r w e go = r
go_both place s t see_one see_other rest_one rest_other (Some a) (Some b) r w e go =
    let made : a.1 ∷ (see_one a.0).made ≡ b.1 ∷ (see_other b.0).made = ap (λ (o : Observed Observation). o.made) e in
    let refused : (see_one a.0).refused ≡ (see_other b.0).refused = ap (λ (o : Observed Observation). o.refused) e in
    let head : a.1 ≡ b.1 = cc in
    let tail : (see_one a.0).made ≡ (see_other b.0).made = cc in
    go a.0 b.0 (w head) (λ k. record { made = tail k; refused = refused k })
go_both place s t see_one see_other rest_one rest_other None (Some b) r w e go =
    let made : [] ≡ b.1 ∷ (see_other b.0).made = ap (λ (o : Observed Observation). o.made) e in cc
go_both place s t see_one see_other rest_one rest_other (Some a) None r w e go =
    let made : a.1 ∷ (see_one a.0).made ≡ [] = ap (λ (o : Observed Observation). o.made) e in cc

pub outlined : (most place : ℕ) (Q : Program) (directives : List Directive) (s t : State) → Outline s t
    → observed_from most Q place directives s ≡ observed_from most Q place directives t → Outline (after most Q directives s) (after most Q directives t)
outlined most place Q [] s t r e = r
outlined most place Q (d ∷ directives) s t r e =
    go_both place s t (observed_from most Q (suc place) directives) (observed_from most Q (suc place) directives) (after most Q directives) (after most Q directives)
    (directive_step most Q s d) (directive_step most Q t d) r (step_both most Q s t d r) e (λ u v q h. outlined most (suc place) Q directives u v q h)
