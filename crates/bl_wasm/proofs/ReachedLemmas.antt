-- At a place that can be reached, all typings of a body agree.
use Rattle.std.proofs.Common.{◌≡◌, ◌∙◌, refl, sym, ap, subst, ℕ, zero, suc, List, [], ◌∷◌, ◌++◌, length, replicate, take, true, false, Bool, Some, slice_get, arith, length-append}
use Rattle.std.specs.Prelude.{fold}
use Rattle.std.proofs.lemmas.List.{append_cancel_right}
use Rattle.bl_base.proofs.OptionLemmas.{same_value}
use Rattle.bl_ops.specs.OperatorTable.{row_of}
use Rattle.bl_ops.specs.declared.op.OpRow.{OpRow}
use Rattle.bl_wasm.specs.declared.instruction.Instr.{Instr}
use Rattle.bl_wasm.specs.declared.instruction.Instr.TheVariants.{Unreachable, Nop, Block, Loop, If, Else, End, Br, BrIf, BrTable, Return, Call, CallIndirect, Drop, Select, LocalGet, LocalSet, LocalTee, GlobalGet, GlobalSet, Load, Store, MemorySize, MemoryGrow, I32Const, I64Const, Integer}
use Rattle.bl_wasm.specs.declared.types.WasmType.{WasmType}
use Rattle.bl_wasm.specs.declared.types.WasmType.TheVariants.{I32}
use Rattle.bl_wasm.specs.declared.types.FuncType.{FuncType}
use Rattle.bl_wasm.specs.declared.types.GlobalType.{GlobalType}
use Rattle.bl_wasm.specs.declared.types.BlockType.{BlockType}
use Rattle.bl_wasm.specs.OpenConstructs.{Kind, of_block, of_loop, then_part, else_part}
use Rattle.bl_wasm.specs.Reached.{innermost, is_reached, reached_behind}
use Rattle.bl_wasm.specs.Typing.{Arrow, Begins, Context, Ends, HasType, IsTyping, Open, Parts, Plain, Rule, Stays, Types, expanded, integer, labels, opened, taken_by}

-- ---- lists with ends of one length

append_same : {A : Type 0} (xs ys us vs : List A) → length us ≡ length vs → xs ++ us ≡ ys ++ vs → (xs ≡ ys) × (us ≡ vs)
append_same [] [] us vs same e = (refl, e)
append_same [] (y ∷ ys) us vs same e = let n : length us ≡ length ((y ∷ ys) ++ vs) = ap length e in absurd (omega (arith, n, same, length-append (y ∷ ys) vs))
append_same (x ∷ xs) [] us vs same e = let n : length ((x ∷ xs) ++ us) ≡ length vs = ap length e in absurd (omega (arith, n, same, length-append (x ∷ xs) us))
append_same (x ∷ xs) (y ∷ ys) us vs same e =
    let h : x ≡ y = cc in
    let t : xs ++ us ≡ ys ++ vs = cc in
    let p = append_same xs ys us vs same t in
    let q : xs ≡ ys = p.0 in
    (cc, p.1)

-- what an item of two arrows leaves, where the inputs have one length and determine the outputs
same_arrow : {ins outs ins' outs' from to to' : List WasmType} → Arrow ins outs from to → Arrow ins' outs' from to' → length ins ≡ length ins' → (ins ≡ ins' → outs ≡ outs') → to ≡ to'
same_arrow {ins} {outs} {ins'} {outs'} h k count gives =
    let p = append_same h.lower k.lower ins ins' count (sym h.before ∙ k.before) in
    h.behind ∙ ap (λ (l : List WasmType). l ++ outs) p.0 ∙ ap (λ (l : List WasmType). k.lower ++ l) (gives p.1) ∙ sym k.behind

-- ---- plain items

-- an item behind which places can be reached
abbrev Continues : Instr → Type 0
Continues Unreachable = ⊥
Continues (Br l) = ⊥
Continues (BrTable default others) = ⊥
Continues Return = ⊥
Continues item = Unit {0}

-- the types of a function
type_same : (c : Context) (function : ℕ) (a b : FuncType) → HasType c function a → HasType c function b → a ≡ b
type_same c function a b h k =
    let e : h.0 ≡ k.0 = same_value (slice_get c.functions function) h.0 k.0 h.1 k.1 in
    same_value (slice_get c.types k.0) a b (subst (λ i. slice_get c.types i ≡ Some a) e h.2) k.2

same_plain : (c : Context) (ls : List (List WasmType)) (item : Instr) (from to to' : List WasmType) → Continues item → Plain c ls item from to → Plain c ls item from to' → to ≡ to'
same_plain c ls Unreachable from to to' go h k = absurd go
same_plain c ls (Br l) from to to' go h k = absurd go
same_plain c ls (BrTable default others) from to to' go h k = absurd go
same_plain c ls Return from to to' go h k = absurd go
same_plain c ls (BrIf l) from to to' go h k =
    let e : h.0 ≡ k.0 = same_value (slice_get ls l) h.0 k.0 h.1 k.1 in same_arrow h.2 k.2 (ap (λ (t : List WasmType). length (t ++ I32 ∷ [])) e) (λ _. e)
same_plain c ls (Call function) from to to' go h k =
    let e : h.0 ≡ k.0 = type_same c function h.0 k.0 h.1 k.1 in same_arrow h.2 k.2 (ap (λ (t : FuncType). length t.params) e) (λ _. ap (λ (t : FuncType). t.results) e)
same_plain c ls (CallIndirect index) from to to' go h k =
    let e : h.0 ≡ k.0 = same_value (slice_get c.types index) h.0 k.0 h.1 k.1 in same_arrow h.3 k.3 (ap (λ (t : FuncType). length (t.params ++ I32 ∷ [])) e) (λ _. ap (λ (t : FuncType). t.results) e)
same_plain c ls Drop from to to' go h k = same_arrow h.1 k.1 refl (λ _. refl)
same_plain c ls Select from to to' go h k = same_arrow h.1 k.1 refl (λ e. let f : h.0 ≡ k.0 = cc in ap (λ (t : WasmType). t ∷ []) f)
same_plain c ls (LocalGet x) from to to' go h k = let e : h.0 ≡ k.0 = same_value (slice_get c.locals x) h.0 k.0 h.1 k.1 in same_arrow h.2 k.2 refl (λ _. ap (λ (t : WasmType). t ∷ []) e)
same_plain c ls (LocalSet x) from to to' go h k = same_arrow h.2 k.2 refl (λ _. refl)
same_plain c ls (LocalTee x) from to to' go h k = same_arrow h.2 k.2 refl (λ e. e)
same_plain c ls (GlobalGet x) from to to' go h k = let e : h.0 ≡ k.0 = same_value (slice_get c.globals x) h.0 k.0 h.1 k.1 in same_arrow h.2 k.2 refl (λ _. ap (λ (g : GlobalType). g.kind ∷ []) e)
same_plain c ls (GlobalSet x) from to to' go h k = same_arrow h.3 k.3 refl (λ _. refl)
same_plain c ls (Load kind argument) from to to' go h k = same_arrow h.3 k.3 refl (λ _. refl)
same_plain c ls (Store kind argument) from to to' go h k = same_arrow h.3 k.3 refl (λ _. refl)
same_plain c ls MemorySize from to to' go h k = same_arrow h.1 k.1 refl (λ _. refl)
same_plain c ls MemoryGrow from to to' go h k = same_arrow h.1 k.1 refl (λ _. refl)
same_plain c ls (Integer op) from to to' go h k =
    let e : h.0 ≡ k.0 = same_value (row_of op) h.0 k.0 h.1 k.1 in
    same_arrow h.2 k.2 (ap (λ (row : OpRow). length (replicate row.operands (integer row.from))) e) (λ _. ap (λ (row : OpRow). integer row.to ∷ []) e)
same_plain c ls Nop from to to' go h k = same_arrow h k refl (λ _. refl)
same_plain c ls (I32Const n) from to to' go h k = same_arrow h k refl (λ _. refl)
same_plain c ls (I64Const n) from to to' go h k = same_arrow h k refl (λ _. refl)
same_plain c ls item from to to' go h k = absurd h

-- ---- two typings at one place

-- they agree on what can be reached: on the operands of the place, and of each place where an open construct begins
abbrev pub Agree : List Bool → List Open → List WasmType → List Open → List WasmType → Type 0
Agree (here ∷ []) [] s [] t = here ≡ true → s ≡ t
Agree (here ∷ outer) (a ∷ ps) s (b ∷ qs) t = (here ≡ true → s ≡ t) × (a.kind ≡ b.kind) × (a.type ≡ b.type) × Agree outer ps a.lower qs b.lower
Agree reach ps s qs t = ⊥

-- other operands on top
now : (here there : Bool) (outer : List Bool) (ps : List Open) (s s' : List WasmType) (qs : List Open) (t t' : List WasmType) → Agree (here ∷ outer) ps s qs t
    → ((here ≡ true → s ≡ t) → there ≡ true → s' ≡ t') → Agree (there ∷ outer) ps s' qs t'
now here there [] [] s s' [] t t' h f = f h
now here there [] [] s s' (b ∷ qs) t t' h f = absurd h
now here there [] (a ∷ ps) s s' [] t t' h f = absurd h
now here there [] (a ∷ ps) s s' (b ∷ qs) t t' h f = (f h.0, h.1, h.2, h.3)
now here there (o ∷ outer) [] s s' [] t t' h f = absurd h
now here there (o ∷ outer) [] s s' (b ∷ qs) t t' h f = absurd h
now here there (o ∷ outer) (a ∷ ps) s s' [] t t' h f = absurd h
now here there (o ∷ outer) (a ∷ ps) s s' (b ∷ qs) t t' h f = (f h.0, h.1, h.2, h.3)

-- the labels are the same
same_labels : (c : Context) (reach : List Bool) (ps : List Open) (s : List WasmType) (qs : List Open) (t : List WasmType) → Agree reach ps s qs t → labels c ps ≡ labels c qs
same_labels c [] ps s qs t h = absurd h
same_labels c (here ∷ []) [] s [] t h = refl
same_labels c (here ∷ []) [] s (q ∷ qs) t h = absurd h
same_labels c (here ∷ []) (p ∷ ps) s [] t h = absurd h
same_labels c (here ∷ []) (p ∷ ps) s (q ∷ qs) t h = absurd (nowhere ps p.lower qs q.lower h.3)
  where
    nowhere : (ps : List Open) (s : List WasmType) (qs : List Open) (t : List WasmType) → Agree [] ps s qs t → ⊥
    nowhere ps s qs t h = h
same_labels c (here ∷ o ∷ outer) [] s [] t h = absurd h
same_labels c (here ∷ o ∷ outer) [] s (q ∷ qs) t h = absurd h
same_labels c (here ∷ o ∷ outer) (p ∷ ps) s [] t h = absurd h
same_labels c (here ∷ o ∷ outer) (p ∷ ps) s (q ∷ qs) t h =
    let later : labels c ps ≡ labels c qs = same_labels c (o ∷ outer) ps p.lower qs q.lower h.3 in
    ap (λ (k : Kind). taken_by k p.type ∷ labels c ps) h.1 ∙ ap (λ (f : FuncType). taken_by q.kind f ∷ labels c ps) h.2 ∙ ap (λ (l : List (List WasmType)). taken_by q.kind q.type ∷ l) later

-- ---- an item

module _ (c : Context) where
  -- equal operands below equal ones
  below : (a b above : List WasmType) (type other : FuncType) (s t : List WasmType) → type ≡ other → s ≡ a ++ (type.params ++ above) → t ≡ b ++ (other.params ++ above) → s ≡ t → a ≡ b
  below a b above type other s t same one two e =
      append_cancel_right a b (type.params ++ above) (sym one ∙ e ∙ two ∙ ap (λ (f : FuncType). b ++ (f.params ++ above)) (sym same))

  begins : (kind : Kind) (i : BlockType) (above : List WasmType) (here : Bool) (outer : List Bool) (ps qs ps' qs' : List Open) (s t s' t' : List WasmType) → Agree (here ∷ outer) ps s qs t
      → Begins c kind i above ps s ps' s' → Begins c kind i above qs t qs' t' → Agree (here ∷ here ∷ outer) ps' s' qs' t'
  begins kind i above here outer ps qs ps' qs' s t s' t' h one two =
      let same : one.type ≡ two.type = same_value (expanded c.types i) one.type two.type one.named two.named in
      let low : Agree (here ∷ outer) ps one.lower qs two.lower = now here here outer ps s one.lower qs t two.lower h (λ eq live. below one.lower two.lower above one.type two.type s t same one.before two.before (eq live)) in
      let whole : Agree (here ∷ here ∷ outer) (opened kind one.type one.lower ∷ ps) s' (opened kind two.type two.lower ∷ qs) t' =
      (λ live. one.behind ∙ ap (λ (f : FuncType). f.params) same ∙ sym two.behind, refl, same, low) in
      subst (λ (o : List Open). Agree (here ∷ here ∷ outer) o s' qs' t') (sym one.inside) (subst (λ (o : List Open). Agree (here ∷ here ∷ outer) (opened kind one.type one.lower ∷ ps) s' o t') (sym two.inside) whole)

  stays : (item : Instr) (here : Bool) (outer : List Bool) (ps qs ps' qs' : List Open) (s t s' t' : List WasmType) → Continues item → Agree (here ∷ outer) ps s qs t
      → Stays c item ps s ps' s' → Stays c item qs t qs' t' → Agree (here ∷ outer) ps' s' qs' t'
  stays item here outer ps qs ps' qs' s t s' t' go h one two =
      let whole : Agree (here ∷ outer) ps s' qs t' = now here here outer ps s s' qs t t' h (λ eq live.
      same_plain c (labels c qs) item t s' t' go (subst (λ (x : List WasmType). Plain c (labels c qs) item x s') (eq live) (subst (λ (l : List (List WasmType)). Plain c l item s s') (same_labels c (here ∷ outer) ps s qs t h) one.rule)) two.rule) in
      subst (λ (o : List Open). Agree (here ∷ outer) o s' qs' t') (sym one.inside) (subst (λ (o : List Open). Agree (here ∷ outer) ps s' o t') (sym two.inside) whole)

  leaves : (item : Instr) (here : Bool) (outer : List Bool) (ps qs ps' qs' : List Open) (s t s' t' : List WasmType) → Agree (here ∷ outer) ps s qs t
      → Stays c item ps s ps' s' → Stays c item qs t qs' t' → Agree (false ∷ outer) ps' s' qs' t'
  leaves item here outer ps qs ps' qs' s t s' t' h one two =
      let whole : Agree (false ∷ outer) ps s' qs t' = now here false outer ps s s' qs t t' h (λ eq live. absurd (cc live)) in
      subst (λ (o : List Open). Agree (false ∷ outer) o s' qs' t') (sym one.inside) (subst (λ (o : List Open). Agree (false ∷ outer) ps s' o t') (sym two.inside) whole)

  parts : (here first : Bool) (outer : List Bool) (p q : Open) (ps qs ps' qs' : List Open) (s t s' t' : List WasmType) → Agree (here ∷ first ∷ outer) (p ∷ ps) s (q ∷ qs) t
      → Parts p ps s ps' s' → Parts q qs t qs' t' → Agree (first ∷ first ∷ outer) ps' s' qs' t'
  parts here first outer p q ps qs ps' qs' s t s' t' h one two =
      let whole : Agree (first ∷ first ∷ outer) (opened else_part p.type p.lower ∷ ps) s' (opened else_part q.type q.lower ∷ qs) t' =
      (λ live. one.behind ∙ ap (λ (f : FuncType). f.params) h.2 ∙ sym two.behind, refl, h.2, h.3) in
      subst (λ (o : List Open). Agree (first ∷ first ∷ outer) o s' qs' t') (sym one.inside) (subst (λ (o : List Open). Agree (first ∷ first ∷ outer) (opened else_part p.type p.lower ∷ ps) s' o t') (sym two.inside) whole)

  ends : (here first : Bool) (outer : List Bool) (p q : Open) (ps qs ps' qs' : List Open) (s t s' t' : List WasmType) → Agree (here ∷ first ∷ outer) (p ∷ ps) s (q ∷ qs) t
      → Ends p ps s ps' s' → Ends q qs t qs' t' → Agree (first ∷ outer) ps' s' qs' t'
  ends here first outer p q ps qs ps' qs' s t s' t' h one two =
      let whole : Agree (first ∷ outer) ps s' qs t' = now first first outer ps p.lower s' qs q.lower t' h.3 (λ eq live.
      one.behind ∙ ap (λ (l : List WasmType). l ++ p.type.results) (eq live) ∙ ap (λ (f : FuncType). q.lower ++ f.results) h.2 ∙ sym two.behind) in
      subst (λ (o : List Open). Agree (first ∷ outer) o s' qs' t') (sym one.inside) (subst (λ (o : List Open). Agree (first ∷ outer) ps s' o t') (sym two.inside) whole)

  step : (item : Instr) (reach : List Bool) (ps : List Open) (s : List WasmType) (qs : List Open) (t : List WasmType) → Agree reach ps s qs t
      → (ps' : List Open) (s' : List WasmType) (qs' : List Open) (t' : List WasmType) → Rule c item ps s ps' s' → Rule c item qs t qs' t' → Agree (reached_behind reach item) ps' s' qs' t'
  step item [] ps s qs t h ps' s' qs' t' one two = absurd h
  step (Block i) (here ∷ outer) ps s qs t h ps' s' qs' t' one two = begins of_block i [] here outer ps qs ps' qs' s t s' t' h one two
  step (Loop i) (here ∷ outer) ps s qs t h ps' s' qs' t' one two = begins of_loop i [] here outer ps qs ps' qs' s t s' t' h one two
  step (If i) (here ∷ outer) ps s qs t h ps' s' qs' t' one two = begins then_part i (I32 ∷ []) here outer ps qs ps' qs' s t s' t' h one two
  step Else (here ∷ first ∷ outer) (p ∷ ps) s (q ∷ qs) t h ps' s' qs' t' one two = parts here first outer p q ps qs ps' qs' s t s' t' h one two
  step Else (here ∷ []) (p ∷ ps) s (q ∷ qs) t h ps' s' qs' t' one two = absurd h.3
  step Else (here ∷ outer) [] s qs t h ps' s' qs' t' one two = absurd one
  step Else (here ∷ outer) (p ∷ ps) s [] t h ps' s' qs' t' one two = absurd two
  step End (here ∷ first ∷ outer) (p ∷ ps) s (q ∷ qs) t h ps' s' qs' t' one two = ends here first outer p q ps qs ps' qs' s t s' t' h one two
  step End (here ∷ []) (p ∷ ps) s (q ∷ qs) t h ps' s' qs' t' one two = absurd h.3
  step End (here ∷ outer) [] s qs t h ps' s' qs' t' one two = absurd one
  step End (here ∷ outer) (p ∷ ps) s [] t h ps' s' qs' t' one two = absurd two
  step Unreachable (here ∷ outer) ps s qs t h ps' s' qs' t' one two = leaves Unreachable here outer ps qs ps' qs' s t s' t' h one two
  step (Br l) (here ∷ outer) ps s qs t h ps' s' qs' t' one two = leaves (Br l) here outer ps qs ps' qs' s t s' t' h one two
  step (BrTable default others) (here ∷ outer) ps s qs t h ps' s' qs' t' one two = leaves (BrTable default others) here outer ps qs ps' qs' s t s' t' h one two
  step Return (here ∷ outer) ps s qs t h ps' s' qs' t' one two = leaves Return here outer ps qs ps' qs' s t s' t' h one two
  step item (here ∷ outer) ps s qs t h ps' s' qs' t' one two = stays item here outer ps qs ps' qs' s t s' t' tt h one two

  -- ---- places

  innermost_live : (reach : List Bool) (ps : List Open) (s : List WasmType) (qs : List Open) (t : List WasmType) → Agree reach ps s qs t → innermost reach ≡ true → s ≡ t
  innermost_live [] ps s qs t h live = absurd h
  innermost_live (here ∷ []) [] s [] t h live = h live
  innermost_live (here ∷ []) [] s (q ∷ qs) t h live = absurd h
  innermost_live (here ∷ []) (p ∷ ps) s [] t h live = absurd h
  innermost_live (here ∷ []) (p ∷ ps) s (q ∷ qs) t h live = h.0 live
  innermost_live (here ∷ o ∷ outer) [] s [] t h live = absurd h
  innermost_live (here ∷ o ∷ outer) [] s (q ∷ qs) t h live = absurd h
  innermost_live (here ∷ o ∷ outer) (p ∷ ps) s [] t h live = absurd h
  innermost_live (here ∷ o ∷ outer) (p ∷ ps) s (q ∷ qs) t h live = h.0 live

  places_agree : (items : List Instr) (reach : List Bool) (ps : List Open) (s : List WasmType) (qs : List Open) (t : List WasmType) (one two : List (List WasmType)) → Agree reach ps s qs t
      → Types c ps items (s ∷ one) → Types c qs items (t ∷ two) → (place : ℕ) → innermost (fold reached_behind reach (take place items)) ≡ true → slice_get (s ∷ one) place ≡ slice_get (t ∷ two) place
  places_agree [] reach ps s qs t [] [] h first second zero live = ap (λ (x : List WasmType). Some x) (innermost_live reach ps s qs t h live)
  places_agree [] reach ps s qs t [] [] h first second (suc place) live = refl
  places_agree [] reach ps s qs t [] (u ∷ two) h first second place live = absurd second
  places_agree [] reach ps s qs t (u ∷ one) two h first second place live = absurd first
  places_agree (item ∷ items) reach ps s qs t [] two h first second place live = absurd first
  places_agree (item ∷ items) reach ps s qs t (u ∷ one) [] h first second place live = absurd second
  places_agree (item ∷ items) reach ps s qs t (u ∷ one) (v ∷ two) h first second zero live = ap (λ (x : List WasmType). Some x) (innermost_live reach ps s qs t h live)
  places_agree (item ∷ items) reach ps s qs t (u ∷ one) (v ∷ two) h first second (suc place) live =
      places_agree items (reached_behind reach item) first.0 u second.0 v one two (step item reach ps s qs t h first.0 u second.0 v first.1 second.1) first.2 second.2 place live

  -- at a place that can be reached, two typings of a body agree
  pub typings_agree : (body : List Instr) (one two : List (List WasmType)) → IsTyping c body one → IsTyping c body two → (place : ℕ) → is_reached body place ≡ true → slice_get one place ≡ slice_get two place
  typings_agree body [] two h k place live = absurd (cc h.0)
  typings_agree body (s ∷ one) [] h k place live = absurd (cc k.0)
  typings_agree body (s ∷ one) (t ∷ two) h k place live =
      let e : s ≡ t = cc in
      places_agree body (true ∷ []) [] s [] t one two (λ _. e) h.1 k.1 place live
