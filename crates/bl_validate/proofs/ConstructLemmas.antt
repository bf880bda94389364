-- Constructs are opened, parted and ended, and items stand in those that are open.
use Rattle.std.proofs.Common.{◌≡◌, ◌↔◌, ◌++◌, List, [], ◌∷◌, length, reverse, Some, None, Result, Ok, Err, IfOk, Bool, true, false, IsTrue, refl, sym, ap, ◌∙◌, subst, arith}
use Rattle.std.proofs.lemmas.List.{reverse-append, length-reverse, append_assoc}
use Rattle.std.proofs.lemmas.Option.{same_Some}
use Rattle.bl_wasm.specs.Instructions.{IsPlain}
use Rattle.bl_wasm.specs.OpenConstructs.{then_part, else_part}
use Rattle.bl_wasm.specs.Typing.{Open, opened, Context, labels, Plain, Begins, Stays, Rule, expanded}
use Rattle.bl_wasm.specs.declared.types.BlockType.{BlockType}
use Rattle.bl_wasm.specs.declared.types.WasmType.{WasmType}
use Rattle.bl_wasm.specs.declared.instruction.Instr.{Instr}
use Rattle.bl_wasm.specs.declared.instruction.Instr.TheVariants.{Block, Loop, If, Else, End}
use Rattle.bl_validate.specs.declared.stacks.Construct.{Construct}
use Rattle.bl_validate.specs.declared.stacks.Frame.{Frame}
use Rattle.bl_validate.specs.declared.stacks.Stacks.{Stacks}
use Rattle.bl_validate.specs.declared.operands.Operands.{Operands}
use Rattle.bl_validate.specs.declared.effects.Effect.{Effect}
use Rattle.bl_validate.specs.HasEffect.{HasEffect, Means}
use Rattle.bl_validate.specs.MayStand.{MayStand}
use Rattle.bl_validate.specs.Represents.{IsOpen, AreOpen, Represents, labels_in, nesting_kind, construct_type}
use Rattle.bl_validate.proofs.LabelLemmas.{labels_are}

abbrev Sets : Type 1
Sets = List WasmType → Type 0

abbrev Places : Type 1
Places = List Open → List WasmType → Type 0

abbrev Over : Context → Instr → Places → Bool → Places → Type 0
Over c item S0 ok S2 = (behind : List Open) (to : List WasmType) →
    (IsTrue ok × S2 behind to) ↔ ((open_ones : List Open) × (from : List WasmType) × Rule c item open_ones from behind to × S0 open_ones from)

-- ---- operands inside what is open

pub lifted_pop : (A : Type 0) (S0 S2 : Sets) (ok : Bool) (types : List WasmType)
    → ((s : List WasmType) → S0 (s ++ types) ↔ (IsTrue ok × S2 s)) → (s : List WasmType) → (S0 (s ++ types) × A) ↔ (IsTrue ok × (S2 s × A))
lifted_pop A S0 S2 ok types h s = (λ x. let q = (h s).0 x.0 in (q.0, (q.1, x.1)), λ x. ((h s).1 (x.0, x.1.0), x.1.1))

pub lifted_push : (A : Type 0) (S0 S2 : Sets) (types : List WasmType)
    → ((s : List WasmType) → S2 s ↔ ((below : List WasmType) × (s ≡ below ++ types) × S0 below))
    → (s : List WasmType) → (S2 s × A) ↔ ((below : List WasmType) × (s ≡ below ++ types) × (S0 below × A))
lifted_push A S0 S2 types h s = (λ x. let q = (h s).0 x.0 in (q.0, q.1, (q.2, x.1)), λ x. ((h s).1 (x.0, x.1, x.2.0), x.2.1))

-- ---- an item that stands in what is open

pub stays : (c : Context) (item : Instr) (S0 S2 : Places) (ok : Bool)
    → ((open_ones : List Open) (to : List WasmType) → (IsTrue ok × S2 open_ones to) ↔ ((from : List WasmType) × Plain c (labels c open_ones) item from to × S0 open_ones from))
    → (behind : List Open) (to : List WasmType)
    → (IsTrue ok × S2 behind to) ↔ ((open_ones : List Open) × (from : List WasmType) × Stays c item open_ones from behind to × S0 open_ones from)
stays c item S0 S2 ok h behind to = (
  λ x. let p = (h behind to).0 x in (behind, p.0, record { inside = refl; rule = p.1 }, p.2),
  λ p. let same : p.0 ≡ behind = sym p.2.inside in
      (h behind to).1 (p.1, subst (λ o. Plain c (labels c o) item p.1 to) same p.2.rule, subst (λ o. S0 o p.1) same p.3),
)

-- an item that stands, by what it does to the operands
pub works : (c : Context) (item : Instr) (old : Stacks) (new : Operands) (ok : Bool)
    → ((open_ones : List Open) → AreOpen (reverse old.frames.items) open_ones → (to : List WasmType)
    → (IsTrue ok × MayStand new to) ↔ ((from : List WasmType) × Plain c (labels c open_ones) item from to × MayStand old.operands from))
    → (behind : List Open) (to : List WasmType) → (IsTrue ok × Represents (record { operands = new; frames = old.frames }) behind to)
    ↔ ((open_ones : List Open) × (from : List WasmType) × Stays c item open_ones from behind to × Represents old open_ones from)
unfolding Represents
works c item old new ok h = stays c item (Represents old) (Represents (record { operands = new; frames = old.frames })) ok (λ open_ones to. (
  λ x. let p = (h open_ones x.1.1 to).0 (x.0, x.1.0) in (p.0, p.1, (p.2, x.1.1)),
  λ p. let q = (h open_ones p.2.1 to).1 (p.0, p.1, p.2.0) in (q.0, (q.1, p.2.1)),
))

-- the rule of an item that neither opens nor parts nor closes a construct
pub plain_rule : (c : Context) (item : Instr) (outer inner : List Open) (from to : List WasmType) → IsPlain item → Rule c item outer from inner to ↔ Stays c item outer from inner to
plain_rule c item outer inner from to = elim item as (λ i. IsPlain i → Rule c i outer from inner to ↔ Stays c i outer from inner to) [
  | Block type ↦ λ p. absurd p
  | Loop type ↦ λ p. absurd p
  | If type ↦ λ p. absurd p
  | Else ↦ λ p. absurd p
  | End ↦ λ p. absurd p
  | _ ↦ λ p. (λ r. r, λ r. r)
]

-- ---- a construct is opened

pub entered : (frames : List Frame) (frame : Frame) (S0 S2 : Sets) → ((s : List WasmType) → S2 s ↔ (s ≡ frame.construct.params.now))
    → ((s : List WasmType) → MayStand frame.below s ↔ S0 s)
    → (open_ones : List Open) (s : List WasmType) → (S2 s × AreOpen (reverse (frames ++ frame ∷ [])) open_ones)
    ↔ ((outer : List Open) × (lower : List WasmType) × (s ≡ frame.construct.params.now)
    × (open_ones ≡ opened (nesting_kind frame.construct.kind) (construct_type frame.construct) lower ∷ outer) × (S0 lower × AreOpen (reverse frames) outer))
entered frames frame S0 S2 these below open_ones s = rw (reverse-append frames (frame ∷ [])) (λ x. forth open_ones x.0 x.1, back)
  where
    forth : (open_ones : List Open) → S2 s → AreOpen (frame ∷ reverse frames) open_ones → (outer : List Open) × (lower : List WasmType) × (s ≡ frame.construct.params.now)
        × (open_ones ≡ opened (nesting_kind frame.construct.kind) (construct_type frame.construct) lower ∷ outer) × (S0 lower × AreOpen (reverse frames) outer)
    forth [] h a = absurd a
    forth (one ∷ outer) h a =
        let is : one ≡ opened (nesting_kind frame.construct.kind) (construct_type frame.construct) one.lower
        = rw (← a.0.kind, ← a.0.type) refl in
        (outer, one.lower, (these s).0 h, ap (λ o. o ∷ outer) is, ((below one.lower).0 a.1, a.2))

    back : ((outer : List Open) × (lower : List WasmType) × (s ≡ frame.construct.params.now)
        × (open_ones ≡ opened (nesting_kind frame.construct.kind) (construct_type frame.construct) lower ∷ outer) × (S0 lower × AreOpen (reverse frames) outer)) → S2 s × AreOpen (frame ∷ reverse frames) open_ones
    back p = ((these s).1 p.2, subst (AreOpen (frame ∷ reverse frames)) (sym p.3) (record { kind = refl; type = refl }, (below p.1).1 p.4.0, p.4.1))

abbrev Opened : Construct → List WasmType → Places → Bool → Places → Type 0
Opened k above S0 ok S2 = (behind : List Open) (to : List WasmType) →
    (IsTrue ok × S2 behind to)
    ↔ ((outer : List Open) × (lower : List WasmType) × (to ≡ k.params.now) × (behind ≡ opened (nesting_kind k.kind) (construct_type k) lower ∷ outer) × S0 outer (lower ++ (k.params.now ++ above)))

abbrev Popped : Places → List WasmType → Bool → Places → Type 0
Popped S0 types ok S1 = (open_ones : List Open) (s : List WasmType) → S0 open_ones (s ++ types) ↔ (IsTrue ok × S1 open_ones s)

pub not_above : (S0 S1 S3 : Places) (k : Construct) (above : List WasmType) (a : Bool) → a ≡ false → Popped S0 above a S1 → Opened k above S0 false S3
not_above S0 S1 S3 k above a isnt first behind to = (
  λ x. absurd (cc x.0),
  λ p. let h = subst (S0 p.0) (sym (append_assoc p.1 k.params.now above)) p.4 in
      let b : IsTrue a = ((first p.0 (p.1 ++ k.params.now)).0 h).0 in absurd (cc (isnt, b)),
)

pub not_params : (S0 S1 S2 S3 : Places) (k : Construct) (above : List WasmType) (a b : Bool) → b ≡ false
    → Popped S0 above a S1 → Popped S1 k.params.now b S2 → Opened k above S0 false S3
not_params S0 S1 S2 S3 k above a b isnt first second behind to = (
  λ x. absurd (cc x.0),
  λ p. let h = subst (S0 p.0) (sym (append_assoc p.1 k.params.now above)) p.4 in
      let q : IsTrue b = ((second p.0 p.1).0 ((first p.0 (p.1 ++ k.params.now)).0 h).1).0 in absurd (cc (isnt, q)),
)

-- a construct of a block type begins
pub begins : (c : Context) (k : Construct) (immediate : BlockType) (above : List WasmType) (S0 S3 : Places) (ok : Bool)
    → Some (construct_type k) ≡ expanded c.types immediate → Opened k above S0 ok S3
    → (behind : List Open) (to : List WasmType) → (IsTrue ok × S3 behind to)
    ↔ ((open_ones : List Open) × (from : List WasmType) × Begins c (nesting_kind k.kind) immediate above open_ones from behind to × S0 open_ones from)
begins c k immediate above S0 S3 ok is opens behind to = (
  λ x. let p = (opens behind to).0 x in
      (p.0, p.1 ++ (k.params.now ++ above), record { type = construct_type k; lower = p.1; named = sym is; before = refl; inside = p.3; behind = p.2 }, p.4),
  λ p. let same : p.2.type ≡ construct_type k = same_Some p.2.type (construct_type k) (sym p.2.named ∙ sym is) in
      (opens behind to).1 (
        p.0,
        p.2.lower,
        p.2.behind ∙ ap (λ t. t.params) same,
        p.2.inside ∙ ap (λ t. opened (nesting_kind k.kind) t p.2.lower ∷ p.0) same,
        subst (S0 p.0) (p.2.before ∙ ap (λ t. p.2.lower ++ (t.params ++ above)) same) p.3,
      ),
)

-- ---- a construct is closed

abbrev Closes : Places → Places → Construct → Type 0
Closes S0 S1 k = (one : Open) (outer : List Open) → S0 (one ∷ outer) one.type.results ↔ (IsOpen k one × S1 outer one.lower)

pub closed : (rest : List Frame) (frame : Frame) (S0 S1 : Sets) (ok done : Bool) → ok ≡ true → done ≡ true
    → ((s : List WasmType) → S0 (s ++ frame.construct.results.now) ↔ (IsTrue ok × S1 s)) → IsTrue done ↔ S1 []
    → (one : Open) (outer : List Open) → (S0 one.type.results × AreOpen (reverse (rest ++ frame ∷ [])) (one ∷ outer))
    ↔ (IsOpen frame.construct one × (MayStand frame.below one.lower × AreOpen (reverse rest) outer))
closed rest frame S0 S1 ok done is empty takes none one outer = rw (reverse-append rest (frame ∷ [])) (
  λ h. (h.1.0, (h.1.1, h.1.2)),
  λ p. (subst S0 (sym (ap (λ t. t.results) p.0.type)) ((takes []).1 (is, none.0 empty)), (p.0, p.1.0, p.1.1)),
)

pub not_taken : (rest : List Frame) (frame : Frame) (S0 S1 : Sets) (ok : Bool) → ok ≡ false
    → ((s : List WasmType) → S0 (s ++ frame.construct.results.now) ↔ (IsTrue ok × S1 s))
    → (one : Open) (outer : List Open) → (S0 one.type.results × AreOpen (reverse (rest ++ frame ∷ [])) (one ∷ outer)) ↔ ⊥
not_taken rest frame S0 S1 ok isnt takes one outer = rw (reverse-append rest (frame ∷ [])) (
  λ h. let b : IsTrue ok = ((takes []).0 (subst S0 (ap (λ t. t.results) h.1.0.type) h.0)).0 in cc (isnt, b),
  λ b. absurd b,
)

pub not_emptied : (rest : List Frame) (frame : Frame) (S0 S1 : Sets) (ok done : Bool) → done ≡ false
    → ((s : List WasmType) → S0 (s ++ frame.construct.results.now) ↔ (IsTrue ok × S1 s)) → IsTrue done ↔ S1 []
    → (one : Open) (outer : List Open) → (S0 one.type.results × AreOpen (reverse (rest ++ frame ∷ [])) (one ∷ outer)) ↔ ⊥
not_emptied rest frame S0 S1 ok done isnt takes none one outer = rw (reverse-append rest (frame ∷ [])) (
  λ h. let b : IsTrue done = none.1 ((takes []).0 (subst S0 (ap (λ t. t.results) h.1.0.type) h.0)).1 in cc (isnt, b),
  λ b. absurd b,
)

-- nothing is open
pub none_open : (frames : List Frame) → length frames ≡ 0 → (one : Open) (outer : List Open) → AreOpen (reverse frames) (one ∷ outer) → ⊥
none_open [] e one outer a = a
none_open (frame ∷ frames) e one outer a = absurd (omega arith)

pub nothing_open : (frames : List Frame) → length frames ≡ 0 → AreOpen (reverse frames) []
nothing_open [] e = tt
nothing_open (frame ∷ frames) e = absurd (omega arith)

pub some_open : (frames : List Frame) → AreOpen (reverse frames) [] → length frames ≡ 0
some_open frames a = by_reversed (reverse frames) refl a
  where
    by_reversed : (rs : List Frame) → reverse frames ≡ rs → AreOpen rs [] → length frames ≡ 0
    by_reversed [] e a = omega (arith, length-reverse frames, ap length e)
    by_reversed (r ∷ rs) e a = absurd a

-- ---- `else` and `end`

pub parts : (c : Context) (S0 S1 S2 : Places) (k : Construct) → nesting_kind k.kind ≡ then_part → Closes S0 S1 k
    → ((open_ones : List Open) (s : List WasmType) → S2 open_ones s
    ↔ ((outer : List Open) × (lower : List WasmType) × (s ≡ k.params.now) × (open_ones ≡ opened else_part (construct_type k) lower ∷ outer) × S1 outer lower))
    → Over c Else S0 true S2
parts c S0 S1 S2 k is close enter behind to = (forth, λ p. (refl, by_open p.0 p.1 p.2 p.3))
  where
    forth : IsTrue true × S2 behind to → (open_ones : List Open) × (from : List WasmType) × Rule c Else open_ones from behind to × S0 open_ones from
    forth x =
        let p = (enter behind to).0 x.1 in
        let one : Open = opened then_part (construct_type k) p.1 in
        (one ∷ p.0, k.results.now, record { first = refl; before = refl; inside = p.3; behind = p.2 }, (close one p.0).1 (record { kind = sym is; type = refl }, p.4))

    by_open : (open_ones : List Open) (from : List WasmType) → Rule c Else open_ones from behind to → S0 open_ones from → S2 behind to
    by_open [] from rule s = absurd rule
    by_open (one ∷ outer) from rule s =
        let q = (close one outer).0 (subst (S0 (one ∷ outer)) rule.before s) in
        (enter behind to).1 (
          outer,
          one.lower,
          rule.behind ∙ ap (λ t. t.params) q.0.type,
          rule.inside ∙ ap (λ t. opened else_part t one.lower ∷ outer) q.0.type,
          q.1,
        )

pub ends : (c : Context) (S0 S1 S2 : Places) (k : Construct) → (nesting_kind k.kind ≡ then_part → k.params.now ≡ k.results.now) → Closes S0 S1 k
    → ((open_ones : List Open) (s : List WasmType) → S2 open_ones s ↔ ((below : List WasmType) × (s ≡ below ++ k.results.now) × S1 open_ones below))
    → Over c End S0 true S2
ends c S0 S1 S2 k whole close put behind to = (forth, λ p. (refl, by_open p.0 p.1 p.2 p.3))
  where
    forth : IsTrue true × S2 behind to → (open_ones : List Open) × (from : List WasmType) × Rule c End open_ones from behind to × S0 open_ones from
    forth x =
        let p = (put behind to).0 x.1 in
        let one : Open = opened (nesting_kind k.kind) (construct_type k) p.0 in
        (one ∷ behind, k.results.now, record { missing = whole; before = refl; inside = refl; behind = p.1 }, (close one behind).1 (record { kind = refl; type = refl }, p.2))

    by_open : (open_ones : List Open) (from : List WasmType) → Rule c End open_ones from behind to → S0 open_ones from → S2 behind to
    by_open [] from rule s = absurd rule
    by_open (one ∷ outer) from rule s =
        let q = (close one outer).0 (subst (S0 (one ∷ outer)) rule.before s) in
        (put behind to).1 (one.lower, rule.behind ∙ ap (λ t. one.lower ++ t.results) q.0.type, subst (λ o. S1 o one.lower) (sym rule.inside) q.1)

-- what holds of each Ok, from what holds of it
pub if_ok_from : {A E : Type 0} (r : Result A E) (P Q : A → Type 0) → ((x : A) → P x → Q x) → IfOk r P → IfOk r Q
if_ok_from (Ok x) P Q f h = f x h
if_ok_from (Err e) P Q f h = tt

-- ---- an item of known effect

pub follows : (c : Context) (item : Instr) (e : Effect) (old : Stacks) (new : Operands) (ok : Bool) → IsPlain item → Means c (labels_in c.results old) item (Some e)
    → ((to : List WasmType) → (IsTrue ok × MayStand new to) ↔ ((from : List WasmType) × HasEffect e from to × MayStand old.operands from))
    → Over c item (Represents old) ok (Represents (record { operands = new; frames = old.frames }))
follows c item e old new ok plain means does behind to = (
  λ x. let p = staying.0 x in (p.0, p.1, (plain_rule c item p.0 behind p.1 to plain).1 p.2, p.3),
  λ p. staying.1 (p.0, p.1, (plain_rule c item p.0 behind p.1 to plain).0 p.2, p.3),
)
  where
    inside : (open_ones : List Open) → AreOpen (reverse old.frames.items) open_ones → (to : List WasmType)
        → (IsTrue ok × MayStand new to) ↔ ((from : List WasmType) × Plain c (labels c open_ones) item from to × MayStand old.operands from)
    inside open_ones are to = rw (labels_are c (reverse old.frames.items) open_ones are) (
      λ x. let p = (does to).0 x in (p.0, (means p.0 to).1 p.1, p.2),
      λ p. (does to).1 (p.0, (means p.0 to).0 p.1, p.2),
    )

    staying : (IsTrue ok × Represents (record { operands = new; frames = old.frames }) behind to)
        ↔ ((open_ones : List Open) × (from : List WasmType) × Stays c item open_ones from behind to × Represents old open_ones from)
    staying = works c item old new ok inside behind to

pub not_follows : (c : Context) (item : Instr) (old new : Stacks) → IsPlain item → Means c (labels_in c.results old) item None → Over c item (Represents old) false (Represents new)
unfolding Represents
not_follows c item old new plain means behind to = (
  λ x. absurd (cc x.0),
  λ p. let rule = (plain_rule c item p.0 behind p.1 to plain).0 p.2 in
      absurd ((means p.1 to).0 (subst (λ l. Plain c l item p.1 to) (labels_are c (reverse old.frames.items) p.0 p.3.1) rule.rule)),
)
