-- A typing as a list of places, and as a sequence whose constructs have sequences of their own.
use Rattle.std.proofs.Common.{◌≡◌, refl, sym, ap, subst, List, [], ◌∷◌, ◌++◌, append_assoc, Some, slice_get}
use Rattle.std.proofs.lemmas.List.Elements.{All-cons, All-nil}
use Rattle.std.specs.List.{All}
use Rattle.bl_base.proofs.Lists.{all_get}
use Rattle.bl_wasm.specs.Instructions.{Nests}
use Rattle.bl_wasm.specs.Instructions.{none as no_items, plain as plain_item, block as block_items, loop as loop_items, if_then as if_items, if_else as else_items}
use Rattle.bl_wasm.specs.OpenConstructs.{Kind, of_block, of_loop, then_part, else_part}
use Rattle.bl_wasm.specs.declared.instruction.Instr.{Instr}
use Rattle.bl_wasm.specs.declared.instruction.Instr.TheVariants.{Block, Loop, If, Else, End}
use Rattle.bl_wasm.specs.declared.types.BlockType.{BlockType}
use Rattle.bl_wasm.specs.declared.types.WasmType.{WasmType}
use Rattle.bl_wasm.specs.declared.types.WasmType.TheVariants.{I32}
use Rattle.bl_wasm.specs.declared.types.FuncType.{FuncType}
use Rattle.bl_wasm.specs.Typing.{Begins, Context, Ends, IsTyping, Open, Plain, Stays, Types, expanded, labels, opened, taken_by}
use Rattle.bl_wasm.specs.Sequences.{Sequence, none, plain, block, loop, if_then, if_else, IsConstruct}
use Rattle.bl_wasm.proofs.LeadsLemmas.{Leads, leads_of, places_of, split, join, stays_of, rule_of, body_nests}

-- ---- from places to sequences

-- what nested items do: they leave open what is open, and are a sequence under its labels
abbrev pub AreSequence : Context → List Instr → Type 0
AreSequence c items = (outer : List Open) (from : List WasmType) (inner : List Open) (to : List WasmType) → Leads c items outer from inner to → (inner ≡ outer) × Sequence c (labels c outer) items from to

-- a construct of that type behind whose beginning its inside and then its end stand
record Closed (c : Context) (kind : Kind) (type : FuncType) (lower : List WasmType) (outer : List Open) (inside more : List Instr) (inner : List Open) (to : List WasmType) : Type 0 where
  missing : kind ≡ then_part → type.params ≡ type.results
  body : Sequence c (taken_by kind type ∷ labels c outer) inside type.params type.results
  same : inner ≡ outer
  later : Sequence c (labels c outer) more (lower ++ type.results) to

ended : (c : Context) (kind : Kind) (type : FuncType) (lower : List WasmType) (outer : List Open) (inside more : List Instr) (inner : List Open) (to : List WasmType)
    → AreSequence c inside → AreSequence c more → Leads c (inside ++ End ∷ more) (opened kind type lower ∷ outer) type.params inner to → Closed c kind type lower outer inside more inner to
ended c kind type lower outer inside more inner to is_inside is_more h =
    let p = split c inside (End ∷ more) (opened kind type lower ∷ outer) type.params inner to h in
    let first = is_inside (opened kind type lower ∷ outer) type.params p.0 p.1 p.2 in
    let e : Leads c (End ∷ more) (opened kind type lower ∷ outer) p.1 inner to = subst (λ (o : List Open). Leads c (End ∷ more) o p.1 inner to) first.0 p.3 in
    let m : Leads c more outer e.1 inner to = subst (λ (o : List Open). Leads c more o e.1 inner to) e.2.inside e.3 in
    let later = is_more outer (lower ++ type.results) inner to (subst (λ (s : List WasmType). Leads c more outer s inner to) e.2.behind m) in
    record {
      missing = e.2.missing;
      body = subst (λ (s : List WasmType). Sequence c (taken_by kind type ∷ labels c outer) inside type.params s) e.2.before first.1;
      same = later.0;
      later = later.1;
    }

-- behind the beginning of a construct
entered : (c : Context) (kind : Kind) (immediate : BlockType) (above : List WasmType) (outer : List Open) (from : List WasmType) (items : List Instr) (middle : List Open) (stack : List WasmType) (inner : List Open) (to : List WasmType)
    → (b : Begins c kind immediate above outer from middle stack) → Leads c items middle stack inner to → Leads c items (opened kind b.type b.lower ∷ outer) b.type.params inner to
entered c kind immediate above outer from items middle stack inner to b h =
    subst (λ (o : List Open). Leads c items o b.type.params inner to) b.inside (subst (λ (s : List WasmType). Leads c items middle s inner to) b.behind h)

pub sequence_of : (c : Context) (items : List Instr) → Nests items → AreSequence c items
sequence_of c _ no_items outer from inner to h = (h.0, subst (λ (t : List WasmType). Sequence c (labels c outer) [] from t) (sym h.1) none)
sequence_of c _ (plain_item item items p n) outer from inner to h =
    let s : Stays c item outer from h.0 h.1 = stays_of c item outer h.0 from h.1 p h.2 in
    let later = sequence_of c items n outer h.1 inner to (subst (λ (o : List Open). Leads c items o h.1 inner to) s.inside h.3) in
    (later.0, plain item p s.rule later.1)
sequence_of c _ (block_items i inside more n m) outer from inner to h =
    let b : Begins c of_block i [] outer from h.0 h.1 = h.2 in
    let e = ended c of_block b.type b.lower outer inside more inner to (sequence_of c inside n) (sequence_of c more m) (entered c of_block i [] outer from (inside ++ End ∷ more) h.0 h.1 inner to b h.3) in
    (e.same, subst (λ (s : List WasmType). Sequence c (labels c outer) (Block i ∷ inside ++ End ∷ more) s to) (sym b.before) (block i b.type b.lower inside more b.named e.body e.later))
sequence_of c _ (loop_items i inside more n m) outer from inner to h =
    let b : Begins c of_loop i [] outer from h.0 h.1 = h.2 in
    let e = ended c of_loop b.type b.lower outer inside more inner to (sequence_of c inside n) (sequence_of c more m) (entered c of_loop i [] outer from (inside ++ End ∷ more) h.0 h.1 inner to b h.3) in
    (e.same, subst (λ (s : List WasmType). Sequence c (labels c outer) (Loop i ∷ inside ++ End ∷ more) s to) (sym b.before) (loop i b.type b.lower inside more b.named e.body e.later))
sequence_of c _ (if_items i inside more n m) outer from inner to h =
    let b : Begins c then_part i (I32 ∷ []) outer from h.0 h.1 = h.2 in
    let e = ended c then_part b.type b.lower outer inside more inner to (sequence_of c inside n) (sequence_of c more m) (entered c then_part i (I32 ∷ []) outer from (inside ++ End ∷ more) h.0 h.1 inner to b h.3) in
    (e.same, subst (λ (s : List WasmType). Sequence c (labels c outer) (If i ∷ inside ++ End ∷ more) s to) (sym b.before) (if_then i b.type b.lower inside more b.named (e.missing refl) e.body e.later))
sequence_of c _ (else_items i first second more f s m) outer from inner to h =
    let b : Begins c then_part i (I32 ∷ []) outer from h.0 h.1 = h.2 in
    let whole : Leads c (first ++ Else ∷ (second ++ End ∷ more)) (opened then_part b.type b.lower ∷ outer) b.type.params inner to =
    subst (λ (items : List Instr). Leads c items (opened then_part b.type b.lower ∷ outer) b.type.params inner to) (append_assoc first (Else ∷ second) (End ∷ more)) (entered c then_part i (I32 ∷ []) outer from (first ++ Else ∷ second ++ End ∷ more) h.0 h.1 inner to b h.3) in
    let p = split c first (Else ∷ (second ++ End ∷ more)) (opened then_part b.type b.lower ∷ outer) b.type.params inner to whole in
    let one = sequence_of c first f (opened then_part b.type b.lower ∷ outer) b.type.params p.0 p.1 p.2 in
    let q : Leads c (Else ∷ (second ++ End ∷ more)) (opened then_part b.type b.lower ∷ outer) p.1 inner to = subst (λ (o : List Open). Leads c (Else ∷ (second ++ End ∷ more)) o p.1 inner to) one.0 p.3 in
    let r : Leads c (second ++ End ∷ more) (opened else_part b.type b.lower ∷ outer) b.type.params inner to =
    subst (λ (o : List Open). Leads c (second ++ End ∷ more) o b.type.params inner to) {x = q.0} q.2.inside (subst (λ (s : List WasmType). Leads c (second ++ End ∷ more) q.0 s inner to) {x = q.1} q.2.behind q.3) in
    let e = ended c else_part b.type b.lower outer second more inner to (sequence_of c second s) (sequence_of c more m) r in (
      e.same,
      subst (λ (s : List WasmType). Sequence c (labels c outer) (If i ∷ first ++ Else ∷ second ++ End ∷ more) s to) (sym b.before)
          (if_else i b.type b.lower first second more b.named (subst (λ (s : List WasmType). Sequence c (b.type.results ∷ labels c outer) first b.type.params s) q.2.before one.1) e.body e.later),
    )

-- ---- from sequences to places

begin : (c : Context) (kind : Kind) (immediate : BlockType) (above : List WasmType) (type : FuncType) (lower : List WasmType) (outer : List Open) → expanded c.types immediate ≡ Some type
    → Begins c kind immediate above outer (lower ++ (type.params ++ above)) (opened kind type lower ∷ outer) type.params
begin c kind immediate above type lower outer named = record { type = type; lower = lower; named = named; before = refl; inside = refl; behind = refl }

finish : (kind : Kind) (type : FuncType) (lower : List WasmType) (outer : List Open) → (kind ≡ then_part → type.params ≡ type.results) → Ends (opened kind type lower) outer type.results outer (lower ++ type.results)
finish kind type lower outer missing = record { missing = missing; before = refl; inside = refl; behind = refl }

pub leads_by : (c : Context) (ls : List (List WasmType)) (items : List Instr) (from to : List WasmType) → Sequence c ls items from to → (outer : List Open) → ls ≡ labels c outer → Leads c items outer from outer to
leads_by c ls _ _ _ none outer e = (refl, refl)
leads_by c ls _ from to (plain {items = items} {middle = middle} item p rule later) outer e =
    (outer, middle, rule_of c item outer outer from middle p (record { inside = refl; rule = subst (λ (l : List (List WasmType)). Plain c l item from middle) e rule }), leads_by c ls items middle to later outer e)
leads_by c ls _ _ to (block i type lower inside more named body later) outer e = (
  opened of_block type lower ∷ outer,
  type.params,
  begin c of_block i [] type lower outer named,
  join c inside (End ∷ more) (opened of_block type lower ∷ outer) (opened of_block type lower ∷ outer) outer type.params type.results to
      (leads_by c (type.results ∷ ls) inside type.params type.results body (opened of_block type lower ∷ outer) (ap (λ (l : List (List WasmType)). type.results ∷ l) e))
      (outer, lower ++ type.results, finish of_block type lower outer (λ no. absurd (cc no)), leads_by c ls more (lower ++ type.results) to later outer e),
)
leads_by c ls _ _ to (loop i type lower inside more named body later) outer e = (
  opened of_loop type lower ∷ outer,
  type.params,
  begin c of_loop i [] type lower outer named,
  join c inside (End ∷ more) (opened of_loop type lower ∷ outer) (opened of_loop type lower ∷ outer) outer type.params type.results to
      (leads_by c (type.params ∷ ls) inside type.params type.results body (opened of_loop type lower ∷ outer) (ap (λ (l : List (List WasmType)). type.params ∷ l) e))
      (outer, lower ++ type.results, finish of_loop type lower outer (λ no. absurd (cc no)), leads_by c ls more (lower ++ type.results) to later outer e),
)
leads_by c ls _ _ to (if_then i type lower inside more named equal body later) outer e = (
  opened then_part type lower ∷ outer,
  type.params,
  begin c then_part i (I32 ∷ []) type lower outer named,
  join c inside (End ∷ more) (opened then_part type lower ∷ outer) (opened then_part type lower ∷ outer) outer type.params type.results to
      (leads_by c (type.results ∷ ls) inside type.params type.results body (opened then_part type lower ∷ outer) (ap (λ (l : List (List WasmType)). type.results ∷ l) e))
      (outer, lower ++ type.results, finish then_part type lower outer (λ is. equal), leads_by c ls more (lower ++ type.results) to later outer e),
)
leads_by c ls _ _ to (if_else i type lower first second more named one two later) outer e =
    let behind : Leads c (second ++ End ∷ more) (opened else_part type lower ∷ outer) type.params outer to = join c second (End ∷ more) (opened else_part type lower ∷ outer) (opened else_part type lower ∷ outer) outer type.params type.results to
    (leads_by c (type.results ∷ ls) second type.params type.results two (opened else_part type lower ∷ outer) (ap (λ (l : List (List WasmType)). type.results ∷ l) e))
    (outer, lower ++ type.results, finish else_part type lower outer (λ no. absurd (cc no)), leads_by c ls more (lower ++ type.results) to later outer e) in
    let all : Leads c (first ++ Else ∷ (second ++ End ∷ more)) (opened then_part type lower ∷ outer) type.params outer to = join c first (Else ∷ (second ++ End ∷ more)) (opened then_part type lower ∷ outer) (opened then_part type lower ∷ outer) outer type.params type.results to
    (leads_by c (type.results ∷ ls) first type.params type.results one (opened then_part type lower ∷ outer) (ap (λ (l : List (List WasmType)). type.results ∷ l) e))
    (opened else_part type lower ∷ outer, type.params, record { first = refl; before = refl; inside = refl; behind = refl }, behind) in (
      opened then_part type lower ∷ outer,
      type.params,
      begin c then_part i (I32 ∷ []) type lower outer named,
      subst (λ (items : List Instr). Leads c items (opened then_part type lower ∷ outer) type.params outer to) (sym (append_assoc first (Else ∷ second) (End ∷ more))) all,
    )

-- ---- a construct at a known end

made : (c : Context) (kind : Kind) (i : BlockType) (above : List WasmType) (outer : List Open) (inside more : List Instr) (from to : List WasmType) (middle : List Open) (stack : List WasmType) → Nests inside → Nests more
    → Begins c kind i above outer from middle stack → Leads c (inside ++ End ∷ more) middle stack outer to → IsConstruct c (labels c outer) kind i above (inside ∷ []) more from to
made c kind i above outer inside more from to middle stack n m b h =
    let e = ended c kind b.type b.lower outer inside more outer to (sequence_of c inside n) (sequence_of c more m) (entered c kind i above outer from (inside ++ End ∷ more) middle stack outer to b h) in
    record { type = b.type; lower = b.lower; named = b.named; before = b.before; missing = e.missing; inside = All-cons (λ part. Sequence c (taken_by kind b.type ∷ labels c outer) part b.type.params b.type.results) inside [] e.body (All-nil (λ part. Sequence c (taken_by kind b.type ∷ labels c outer) part b.type.params b.type.results)); later = e.later }

pub block_made : (c : Context) (outer : List Open) (i : BlockType) (inside more : List Instr) (from to : List WasmType) → Nests inside → Nests more
    → Sequence c (labels c outer) (Block i ∷ inside ++ End ∷ more) from to → IsConstruct c (labels c outer) of_block i [] (inside ∷ []) more from to
block_made c outer i inside more from to n m s =
    let h : Leads c (Block i ∷ inside ++ End ∷ more) outer from outer to = leads_by c (labels c outer) (Block i ∷ inside ++ End ∷ more) from to s outer refl in
    made c of_block i [] outer inside more from to h.0 h.1 n m h.2 h.3

pub loop_made : (c : Context) (outer : List Open) (i : BlockType) (inside more : List Instr) (from to : List WasmType) → Nests inside → Nests more
    → Sequence c (labels c outer) (Loop i ∷ inside ++ End ∷ more) from to → IsConstruct c (labels c outer) of_loop i [] (inside ∷ []) more from to
loop_made c outer i inside more from to n m s =
    let h : Leads c (Loop i ∷ inside ++ End ∷ more) outer from outer to = leads_by c (labels c outer) (Loop i ∷ inside ++ End ∷ more) from to s outer refl in
    made c of_loop i [] outer inside more from to h.0 h.1 n m h.2 h.3

pub if_made : (c : Context) (outer : List Open) (i : BlockType) (inside more : List Instr) (from to : List WasmType) → Nests inside → Nests more
    → Sequence c (labels c outer) (If i ∷ inside ++ End ∷ more) from to → IsConstruct c (labels c outer) then_part i (I32 ∷ []) (inside ∷ []) more from to
if_made c outer i inside more from to n m s =
    let h : Leads c (If i ∷ inside ++ End ∷ more) outer from outer to = leads_by c (labels c outer) (If i ∷ inside ++ End ∷ more) from to s outer refl in
    made c then_part i (I32 ∷ []) outer inside more from to h.0 h.1 n m h.2 h.3

pub else_made : (c : Context) (outer : List Open) (i : BlockType) (first second more : List Instr) (from to : List WasmType) → Nests first → Nests second → Nests more
    → Sequence c (labels c outer) (If i ∷ first ++ Else ∷ second ++ End ∷ more) from to → IsConstruct c (labels c outer) else_part i (I32 ∷ []) (first ∷ second ∷ []) more from to
else_made c outer i first second more from to f n m s =
    let h : Leads c (If i ∷ first ++ Else ∷ second ++ End ∷ more) outer from outer to = leads_by c (labels c outer) (If i ∷ first ++ Else ∷ second ++ End ∷ more) from to s outer refl in
    let b : Begins c then_part i (I32 ∷ []) outer from h.0 h.1 = h.2 in
    let all : Leads c (first ++ Else ∷ (second ++ End ∷ more)) (opened then_part b.type b.lower ∷ outer) b.type.params outer to =
    subst (λ (items : List Instr). Leads c items (opened then_part b.type b.lower ∷ outer) b.type.params outer to) (append_assoc first (Else ∷ second) (End ∷ more)) (entered c then_part i (I32 ∷ []) outer from (first ++ Else ∷ second ++ End ∷ more) h.0 h.1 outer to b h.3) in
    let p = split c first (Else ∷ (second ++ End ∷ more)) (opened then_part b.type b.lower ∷ outer) b.type.params outer to all in
    let one = sequence_of c first f (opened then_part b.type b.lower ∷ outer) b.type.params p.0 p.1 p.2 in
    let q : Leads c (Else ∷ (second ++ End ∷ more)) (opened then_part b.type b.lower ∷ outer) p.1 outer to = subst (λ (o : List Open). Leads c (Else ∷ (second ++ End ∷ more)) o p.1 outer to) one.0 p.3 in
    let r : Leads c (second ++ End ∷ more) (opened else_part b.type b.lower ∷ outer) b.type.params outer to =
    subst (λ (o : List Open). Leads c (second ++ End ∷ more) o b.type.params outer to) {x = q.0} q.2.inside (subst (λ (s : List WasmType). Leads c (second ++ End ∷ more) q.0 s outer to) {x = q.1} q.2.behind q.3) in
    let e = ended c else_part b.type b.lower outer second more outer to (sequence_of c second n) (sequence_of c more m) r in
    record {
      type = b.type;
      lower = b.lower;
      named = b.named;
      before = b.before;
      missing = e.missing;
      inside = All-cons (λ part. Sequence c (b.type.results ∷ labels c outer) part b.type.params b.type.results) first (second ∷ [])
          (subst (λ (s : List WasmType). Sequence c (b.type.results ∷ labels c outer) first b.type.params s) q.2.before one.1)
          (All-cons (λ part. Sequence c (b.type.results ∷ labels c outer) part b.type.params b.type.results) second [] e.body (All-nil (λ part. Sequence c (b.type.results ∷ labels c outer) part b.type.params b.type.results)));
      later = e.later;
    }

-- the same from its parts

part_is : (P : List Instr → Type 0) (first : List Instr) (parts : List (List Instr)) → All P (first ∷ parts) → P first
part_is P first parts h = all_get P (first ∷ parts) 0 first h refl

pub block_of : (c : Context) (ls : List (List WasmType)) (i : BlockType) (inside more : List Instr) (from to : List WasmType)
    → IsConstruct c ls of_block i [] (inside ∷ []) more from to → Sequence c ls (Block i ∷ inside ++ End ∷ more) from to
block_of c ls i inside more from to m =
    subst (λ (s : List WasmType). Sequence c ls (Block i ∷ inside ++ End ∷ more) s to) (sym m.before) (block i m.type m.lower inside more m.named
    (part_is (λ part. Sequence c (m.type.results ∷ ls) part m.type.params m.type.results) inside [] m.inside) m.later)

pub loop_of : (c : Context) (ls : List (List WasmType)) (i : BlockType) (inside more : List Instr) (from to : List WasmType)
    → IsConstruct c ls of_loop i [] (inside ∷ []) more from to → Sequence c ls (Loop i ∷ inside ++ End ∷ more) from to
loop_of c ls i inside more from to m =
    subst (λ (s : List WasmType). Sequence c ls (Loop i ∷ inside ++ End ∷ more) s to) (sym m.before) (loop i m.type m.lower inside more m.named
    (part_is (λ part. Sequence c (m.type.params ∷ ls) part m.type.params m.type.results) inside [] m.inside) m.later)

pub if_of : (c : Context) (ls : List (List WasmType)) (i : BlockType) (inside more : List Instr) (from to : List WasmType)
    → IsConstruct c ls then_part i (I32 ∷ []) (inside ∷ []) more from to → Sequence c ls (If i ∷ inside ++ End ∷ more) from to
if_of c ls i inside more from to m =
    subst (λ (s : List WasmType). Sequence c ls (If i ∷ inside ++ End ∷ more) s to) (sym m.before) (if_then i m.type m.lower inside more m.named (m.missing refl)
    (part_is (λ part. Sequence c (m.type.results ∷ ls) part m.type.params m.type.results) inside [] m.inside) m.later)

pub else_of : (c : Context) (ls : List (List WasmType)) (i : BlockType) (first second more : List Instr) (from to : List WasmType)
    → IsConstruct c ls else_part i (I32 ∷ []) (first ∷ second ∷ []) more from to → Sequence c ls (If i ∷ first ++ Else ∷ second ++ End ∷ more) from to
else_of c ls i first second more from to m =
    let P = λ (part : List Instr). Sequence c (m.type.results ∷ ls) part m.type.params m.type.results in
    subst (λ (s : List WasmType). Sequence c ls (If i ∷ first ++ Else ∷ second ++ End ∷ more) s to) (sym m.before) (if_else i m.type m.lower first second more m.named
    (part_is P first (second ∷ []) m.inside) (all_get P (first ∷ second ∷ []) 1 second m.inside refl) m.later)

-- ---- the whole

-- a body has a typing exactly where it is a sequence from nothing to the function's results
pub typing_is_sequence : (c : Context) (body : List Instr) → ((places : List (List WasmType)) × IsTyping c body places) → Sequence c (labels c []) body [] c.results
typing_is_sequence c body h = forth h.0 h.1.0 h.1.1
  where
    forth : (places : List (List WasmType)) → slice_get places 0 ≡ Some [] → Types c [] body places → Sequence c (labels c []) body [] c.results
    forth [] e t = absurd (cc e)
    forth (from ∷ later) e t =
        let none : from ≡ [] = cc e in
        let l : Leads c body [] [] [] c.results = leads_of c body [] [] later (subst (λ (s : List WasmType). Types c [] body (s ∷ later)) none t) in
        (sequence_of c body (body_nests c body [] c.results l) [] [] [] c.results l).1

pub sequence_is_typing : (c : Context) (body : List Instr) → Sequence c (labels c []) body [] c.results → (places : List (List WasmType)) × IsTyping c body places
sequence_is_typing c body s =
    let p = places_of c body [] [] (leads_by c (labels c []) body [] c.results s [] refl) in
    ([] ∷ p.0, (refl, p.1))
