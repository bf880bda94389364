-- What items lead from and to, and that a body with a typing nests.
use Rattle.std.proofs.Common.{◌≡◌, ℕ, zero, suc, ◌≤◌, refl, sym, ap, ◌∙◌, subst, List, [], ◌∷◌, ◌++◌, length, take, drop, Option, Some, arith}
use Rattle.bl_wasm.specs.Instructions.{IsPlain, Nests}
use Rattle.std.specs.Prelude.{option_and_then}
use Rattle.bl_wasm.specs.OpenConstructs.{Kind, of_block, of_loop, then_part, else_part, Construct, construct, behind_else, open_behind, open_through, Closes}
use Rattle.bl_wasm.specs.TypedPlaces.{AreOpenAs, IsOpenAt}
use Rattle.bl_wasm.proofs.OpenConstructLemmas.{nests}
use Rattle.bl_wasm.specs.declared.instruction.Instr.{Instr}
use Rattle.bl_wasm.specs.declared.instruction.Instr.TheVariants.{Block, Loop, If, Else, End}
use Rattle.bl_wasm.specs.declared.types.BlockType.{BlockType}
use Rattle.bl_wasm.specs.declared.types.WasmType.{WasmType}
use Rattle.bl_wasm.specs.declared.types.WasmType.TheVariants.{I32}
use Rattle.bl_wasm.specs.Typing.{Begins, Context, IsTyping, Open, Rule, Stays, Types}

-- items lead from what is open and operands' types before them to both behind them
abbrev pub Leads : Context → List Instr → List Open → List WasmType → List Open → List WasmType → Type 0
Leads c [] outer from inner to = (inner ≡ outer) × (to ≡ from)
Leads c (item ∷ items) outer from inner to =
    (open_ones : List Open) × (stack : List WasmType) × Rule c item outer from open_ones stack × Leads c items open_ones stack inner to

-- ---- places

pub leads_of : (c : Context) (items : List Instr) (outer : List Open) (from : List WasmType) (later : List (List WasmType)) → Types c outer items (from ∷ later) → Leads c items outer from [] c.results
leads_of c [] outer from [] h = (sym h.0, sym h.1)
leads_of c [] outer from (to ∷ later) h = absurd h
leads_of c (item ∷ items) outer from [] h = absurd h
leads_of c (item ∷ items) outer from (to ∷ later) h = (h.0, to, h.1, leads_of c items h.0 to later h.2)

pub places_of : (c : Context) (items : List Instr) (outer : List Open) (from : List WasmType) → Leads c items outer from [] c.results → (later : List (List WasmType)) × Types c outer items (from ∷ later)
places_of c [] outer from h = ([], (sym h.0, sym h.1))
places_of c (item ∷ items) outer from h = let p = places_of c items h.0 h.1 h.3 in (h.1 ∷ p.0, (h.0, h.2, p.1))

-- ---- one after another

pub split : (c : Context) (xs ys : List Instr) (outer : List Open) (from : List WasmType) (inner : List Open) (to : List WasmType) → Leads c (xs ++ ys) outer from inner to
    → (middle : List Open) × (stack : List WasmType) × Leads c xs outer from middle stack × Leads c ys middle stack inner to
split c [] ys outer from inner to h = (outer, from, (refl, refl), h)
split c (item ∷ xs) ys outer from inner to h = let p = split c xs ys h.0 h.1 inner to h.3 in (p.0, p.1, (h.0, h.1, h.2, p.2), p.3)

pub join : (c : Context) (xs ys : List Instr) (outer middle inner : List Open) (from stack to : List WasmType) → Leads c xs outer from middle stack → Leads c ys middle stack inner to → Leads c (xs ++ ys) outer from inner to
join c [] ys outer middle inner from stack to h k = subst (λ (o : List Open). Leads c ys o from inner to) h.0 (subst (λ (s : List WasmType). Leads c ys middle s inner to) h.1 k)
join c (item ∷ xs) ys outer middle inner from stack to h k = (h.0, h.1, h.2, join c xs ys h.0 middle inner h.1 stack to h.3 k)

-- ---- a body with a typing nests

pub stays_of : (c : Context) (item : Instr) (outer inner : List Open) (from to : List WasmType) → IsPlain item → Rule c item outer from inner to → Stays c item outer from inner to
stays_of c (Block i) outer inner from to p h = absurd p
stays_of c (Loop i) outer inner from to p h = absurd p
stays_of c (If i) outer inner from to p h = absurd p
stays_of c Else outer inner from to p h = absurd p
stays_of c End outer inner from to p h = absurd p
stays_of c item outer inner from to p h = h

pub rule_of : (c : Context) (item : Instr) (outer inner : List Open) (from to : List WasmType) → IsPlain item → Stays c item outer from inner to → Rule c item outer from inner to
rule_of c (Block i) outer inner from to p h = absurd p
rule_of c (Loop i) outer inner from to p h = absurd p
rule_of c (If i) outer inner from to p h = absurd p
rule_of c Else outer inner from to p h = absurd p
rule_of c End outer inner from to p h = absurd p
rule_of c item outer inner from to p h = h

-- an item behind which these are open
record Behind (c : Context) (item : Instr) (constructs : List Construct) (inner : List Open) : Type 0 where
  next : List Construct
  opens : open_behind item constructs ≡ Some next
  same : AreOpenAs c next inner

begun : (c : Context) (item : Instr) (kind : Kind) (immediate : BlockType) (above : List WasmType) (outer inner : List Open) (from to : List WasmType) (constructs : List Construct)
    → open_behind item constructs ≡ Some (construct kind immediate ∷ constructs) → Begins c kind immediate above outer from inner to → AreOpenAs c constructs outer
    → Behind c item constructs inner
begun c item kind immediate above outer inner from to constructs e b same = record {
  next = construct kind immediate ∷ constructs;
  opens = e;
  same = subst (λ (o : List Open). AreOpenAs c (construct kind immediate ∷ constructs) o) (sym b.inside) (record { kind = refl; type = b.named }, same);
}

-- by nesting and by the rules of a typing the same is open behind an item
behind : (c : Context) (item : Instr) (outer inner : List Open) (from to : List WasmType) (constructs : List Construct) → AreOpenAs c constructs outer
    → Rule c item outer from inner to → Behind c item constructs inner
behind c (Block i) outer inner from to constructs same rule = begun c (Block i) of_block i [] outer inner from to constructs refl rule same
behind c (Loop i) outer inner from to constructs same rule = begun c (Loop i) of_loop i [] outer inner from to constructs refl rule same
behind c (If i) outer inner from to constructs same rule = begun c (If i) then_part i (I32 ∷ []) outer inner from to constructs refl rule same
behind c Else [] inner from to constructs same rule = absurd rule
behind c Else (one ∷ outer) inner from to [] same rule = absurd same
behind c Else (one ∷ outer) inner from to (x ∷ constructs) same rule = record {
  next = construct else_part x.type ∷ constructs;
  opens = ap (λ (kind : Kind). behind_else (construct kind x.type ∷ constructs)) (same.0.kind ∙ rule.first);
  same = subst (λ (o : List Open). AreOpenAs c (construct else_part x.type ∷ constructs) o) (sym rule.inside) (record { kind = refl; type = same.0.type }, same.1);
}
behind c End [] inner from to constructs same rule = absurd rule
behind c End (one ∷ outer) inner from to [] same rule = absurd same
behind c End (one ∷ outer) inner from to (x ∷ constructs) same rule =
    record { next = constructs; opens = refl; same = subst (λ (o : List Open). AreOpenAs c constructs o) (sym rule.inside) same.1 }
behind c item outer inner from to constructs same rule =
    record { next = constructs; opens = refl; same = subst (λ (o : List Open). AreOpenAs c constructs o) (sym rule.inside) same }

none_open : (c : Context) (constructs : List Construct) (outer : List Open) → [] ≡ outer → AreOpenAs c constructs outer → constructs ≡ []
none_open c [] outer e same = refl
none_open c (x ∷ constructs) [] e same = absurd same
none_open c (x ∷ constructs) (one ∷ outer) e same = absurd (cc e)

closes : (c : Context) (items : List Instr) (outer : List Open) (constructs : List Construct) (from to : List WasmType) → AreOpenAs c constructs outer
    → Leads c items outer from [] to → Closes constructs items
closes c [] outer constructs from to same h = none_open c constructs outer h.0 same
closes c (item ∷ items) outer constructs from to same h =
    let b = behind c item outer h.0 from h.1 constructs same h.2 in
    (b.next, b.opens, closes c items h.0 b.next h.1 to b.same h.3)

pub body_nests : (c : Context) (items : List Instr) (from to : List WasmType) → Leads c items [] from [] to → Nests items
body_nests c items from to h = nests items (closes c items [] [] from to tt h)

pub typing_nests : (c : Context) (body : List Instr) (places : List (List WasmType)) → IsTyping c body places → Nests body
typing_nests c body [] h = absurd (cc h.0)
typing_nests c body (from ∷ later) h = body_nests c body from c.results (leads_of c body [] from later h.1)

-- ---- what is open at a place

record IsOpenIn (c : Context) (items : List Instr) (constructs : List Construct) (places : List (List WasmType)) (place : ℕ) : Type 0 where
  next : List Construct
  open_ones : List Open
  nested : open_through (take place items) constructs ≡ Some next
  same : AreOpenAs c next open_ones
  typed : Types c open_ones (drop place items) (drop place places)

open_in : (c : Context) (items : List Instr) (outer : List Open) (constructs : List Construct) (places : List (List WasmType)) → AreOpenAs c constructs outer
    → Types c outer items places → (place : ℕ) → place ≤ length items → IsOpenIn c items constructs places place
open_in c items outer constructs places same h zero le = record { next = constructs; open_ones = outer; nested = refl; same = same; typed = h }
open_in c [] outer constructs places same h (suc place) le = absurd (omega (arith, le))
open_in c (item ∷ items) outer constructs [] same h (suc place) le = absurd h
open_in c (item ∷ items) outer constructs (from ∷ []) same h (suc place) le = absurd h
open_in c (item ∷ items) outer constructs (from ∷ to ∷ later) same h (suc place) le =
    let b = behind c item outer h.0 from to constructs same h.1 in
    let p = open_in c items h.0 b.next (to ∷ later) b.same h.2 place (omega (arith, le)) in
    record {
      next = p.next;
      open_ones = p.open_ones;
      nested = ap (λ (o : Option (List Construct)). option_and_then (open_through (take place items)) o) b.opens ∙ p.nested;
      same = p.same;
      typed = p.typed;
    }

pub open_at_place : (c : Context) (body : List Instr) (places : List (List WasmType)) → IsTyping c body places → (place : ℕ) → place ≤ length body → IsOpenAt c body places place
open_at_place c body places typing place le =
    let p = open_in c body [] [] places tt typing.1 place le in
    record { constructs = p.next; open_ones = p.open_ones; nested = p.nested; same = p.same; typed = p.typed }
