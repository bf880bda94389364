-- Places of a typed body: the next one, the one behind the end of a construct, the else part of an if.
use Rattle.std.proofs.Common.{◌≡◌, ℕ, suc, ◌+◌, ◌≤◌, List, [], ◌∷◌, ◌++◌, length, drop, Some, refl, sym, ap, ◌∙◌, subst, arith, length-drop}
use Rattle.std.specs.Prelude.{unwrap_or}
use Rattle.std.proofs.lemmas.List.{drop-drop}
use Rattle.bl_wasm.specs.OpenConstructs.{Kind, of_block, of_loop, then_part, else_part, Construct, construct, behind_else, open_behind}
use Rattle.bl_wasm.specs.TypedPlaces.{IsOpenAs, AreOpenAs}
use Rattle.bl_wasm.specs.Typing.{Context, Open, opened, taken_by, Begins, Parts, Ends, Rule, Types}
use Rattle.bl_wasm.specs.declared.instruction.Instr.{Instr}
use Rattle.bl_wasm.specs.declared.instruction.Instr.TheVariants.{Block, Loop, If, Else, End}
use Rattle.bl_wasm.specs.declared.types.BlockType.{BlockType}
use Rattle.bl_wasm.specs.declared.types.FuncType.{FuncType}
use Rattle.bl_wasm.specs.declared.types.WasmType.{WasmType}
use Rattle.bl_wasm.specs.declared.types.WasmType.TheVariants.{I32}
use Rattle.bl_reduce.specs.Control.{items_behind_end, items_of_else}
use Rattle.bl_reduce.specs.TypedConfigurations.{IsRest}

-- a later place, where other constructs are open
pub record Onward (c : Context) (open_ones : List Open) (items : List Instr) (inner : List Open) (stack : List WasmType) (rest : List Instr) : Type 0 where
  pub steps : ℕ
  pub inside : steps ≤ length items
  pub left : rest ≡ drop steps items
  pub later : List (List WasmType)
  pub typing : Types c inner rest (stack ∷ later)

-- an item behind which the constructs within one that is open are these
record Moves (c : Context) (item : Instr) (constructs : List Construct) (one : Open) (outer behind : List Open) : Type 0 where
  next : List Construct
  within : List Open
  opens : open_behind item constructs ≡ Some next
  alike : AreOpenAs c next within
  are : behind ≡ within ++ one ∷ outer

-- an item inside a construct: it moves what is open within, or is the construct's own `else` or its own `end`
data Met (c : Context) (one : Open) (outer : List Open) (from : List WasmType) (behind : List Open) (to : List WasmType) : Instr → List Construct → List Open → Type 0 where
  moved : (item : Instr) (constructs : List Construct) (inner : List Open) → Moves c item constructs one outer behind → Met c one outer from behind to item constructs inner
  own_else : Parts one outer from behind to → Met c one outer from behind to Else [] []
  own_end : Ends one outer from behind to → Met c one outer from behind to End [] []

module _ (c : Context) where
  pub here : (open_ones : List Open) (items : List Instr) (stack : List WasmType) (later : List (List WasmType)) → Types c open_ones items (stack ∷ later)
      → Onward c open_ones items open_ones stack items
  here open_ones items stack later typing = record { steps = 0; inside = omega arith; left = refl; later = later; typing = typing }

  -- past an item
  pub past : (item : Instr) (items : List Instr) (outer : List Open) (from : List WasmType) (behind : List Open) (to : List WasmType)
      (inner : List Open) (stack : List WasmType) (rest : List Instr)
      → Rule c item outer from behind to → Onward c behind items inner stack rest → Onward c outer (item ∷ items) inner stack rest
  past item items outer from behind to inner stack rest rule h = record {
    steps = suc h.steps;
    inside = omega (arith, h.inside);
    left = h.left;
    later = h.later;
    typing = h.typing;
  }

  -- the typing behind an item
  pub record Behind (item : Instr) (items : List Instr) (outer : List Open) (from : List WasmType) : Type 0 where
    pub behind : List Open
    pub to : List WasmType
    pub rule : Rule c item outer from behind to
    pub later : List (List WasmType)
    pub typing : Types c behind items (to ∷ later)

  pub behind_item : (item : Instr) (items : List Instr) (outer : List Open) (from : List WasmType) (later : List (List WasmType)) → Types c outer (item ∷ items) (from ∷ later) → Behind item items outer from
  behind_item item items outer from [] h = absurd h
  behind_item item items outer from (to ∷ later) h = record { behind = h.0; to = to; rule = h.1; later = later; typing = h.2 }

  -- ---- what is open within a construct

  begun : (item : Instr) (kind : Kind) (immediate : BlockType) (above : List WasmType) (constructs : List Construct) (inner : List Open) (one : Open) (outer : List Open)
      (from : List WasmType) (behind : List Open) (to : List WasmType) → open_behind item constructs ≡ Some (construct kind immediate ∷ constructs) → AreOpenAs c constructs inner
      → Begins c kind immediate above (inner ++ one ∷ outer) from behind to → Met c one outer from behind to item constructs inner
  begun item kind immediate above constructs inner one outer from behind to e alike rule =
      moved item constructs inner (record {
        next = construct kind immediate ∷ constructs;
        within = opened kind rule.type rule.lower ∷ inner;
        opens = e;
        alike = (record { kind = refl; type = rule.named }, alike);
        are = rule.inside;
      })

  parts_within : (x : Construct) (constructs : List Construct) (o : Open) (inner : List Open) (one : Open) (outer : List Open)
      (from : List WasmType) (behind : List Open) (to : List WasmType) → IsOpenAs c x o → AreOpenAs c constructs inner
      → Parts o (inner ++ one ∷ outer) from behind to → Moves c Else (x ∷ constructs) one outer behind
  parts_within x constructs o inner one outer from behind to is alike rule = record {
    next = construct else_part x.type ∷ constructs;
    within = opened else_part o.type o.lower ∷ inner;
    opens = ap (λ kind. behind_else (construct kind x.type ∷ constructs)) (is.kind ∙ rule.first);
    alike = (record { kind = refl; type = is.type }, alike);
    are = rule.inside;
  }

  met : (item : Instr) (constructs : List Construct) (inner : List Open) (one : Open) (outer : List Open) (from : List WasmType) (behind : List Open) (to : List WasmType)
      → AreOpenAs c constructs inner → Rule c item (inner ++ one ∷ outer) from behind to → Met c one outer from behind to item constructs inner
  met (Block immediate) constructs inner one outer from behind to alike rule = begun (Block immediate) of_block immediate [] constructs inner one outer from behind to refl alike rule
  met (Loop immediate) constructs inner one outer from behind to alike rule = begun (Loop immediate) of_loop immediate [] constructs inner one outer from behind to refl alike rule
  met (If immediate) constructs inner one outer from behind to alike rule = begun (If immediate) then_part immediate (I32 ∷ []) constructs inner one outer from behind to refl alike rule
  met Else [] [] one outer from behind to alike rule = own_else rule
  met Else (x ∷ constructs) [] one outer from behind to alike rule = absurd alike
  met Else [] (o ∷ inner) one outer from behind to alike rule = absurd alike
  met Else (x ∷ constructs) (o ∷ inner) one outer from behind to alike rule =
      moved Else (x ∷ constructs) (o ∷ inner) (parts_within x constructs o inner one outer from behind to alike.0 alike.1 rule)
  met End [] [] one outer from behind to alike rule = own_end rule
  met End (x ∷ constructs) [] one outer from behind to alike rule = absurd alike
  met End [] (o ∷ inner) one outer from behind to alike rule = absurd alike
  met End (x ∷ constructs) (o ∷ inner) one outer from behind to alike rule =
      moved End (x ∷ constructs) (o ∷ inner) (record { next = constructs; within = inner; opens = refl; alike = alike.1; are = rule.inside })
  met item constructs inner one outer from behind to alike rule =
      moved item constructs inner (record { next = constructs; within = inner; opens = refl; alike = alike; are = rule.inside })

  -- ---- the end of a construct

  open_not_empty : (inner : List Open) (one : Open) (outer : List Open) → inner ++ one ∷ outer ≡ [] → ⊥
  open_not_empty [] one outer e = cc
  open_not_empty (x ∷ inner) one outer e = cc

  unended : (inner : List Open) (one : Open) (outer : List Open) (from : List WasmType) (later : List (List WasmType)) → Types c (inner ++ one ∷ outer) [] (from ∷ later) → ⊥
  unended inner one outer from [] h = open_not_empty inner one outer h.0
  unended inner one outer from (to ∷ later) h = h

  abbrev Ended : List Construct → List Open → Open → List Open → List Instr → Type 0
  Ended constructs inner one outer items = Onward c (inner ++ one ∷ outer) items outer (one.lower ++ one.type.results) (items_behind_end constructs items)

  -- the same of the items behind an item, whatever is open within
  abbrev EndedBehind : List Instr → List Open → Type 0
  EndedBehind items outer = (constructs : List Construct) (inner : List Open) (one : Open) (from : List WasmType) (later : List (List WasmType)) → AreOpenAs c constructs inner
      → Types c (inner ++ one ∷ outer) items (from ∷ later) → Ended constructs inner one outer items

  -- an item behind which other constructs are open within the one that ends, or within another one with the same end
  onto : (item : Instr) (items : List Instr) (outer inner within : List Open) (next : List Construct) (one other : Open) (from : List WasmType) → EndedBehind items outer
      → (b : Behind item items (inner ++ one ∷ outer) from) → AreOpenAs c next within → b.behind ≡ within ++ other ∷ outer → other.lower ++ other.type.results ≡ one.lower ++ one.type.results
      → Onward c (inner ++ one ∷ outer) (item ∷ items) outer (one.lower ++ one.type.results) (items_behind_end next items)
  onto item items outer inner within next one other from again b alike e same =
      past item items (inner ++ one ∷ outer) from b.behind b.to outer (one.lower ++ one.type.results) (items_behind_end next items) b.rule
      (subst (λ o. Onward c o items outer (one.lower ++ one.type.results) (items_behind_end next items)) (sym e)
      (subst (λ stack. Onward c (within ++ other ∷ outer) items outer stack (items_behind_end next items)) same
      (again next within other b.to b.later alike (subst (λ o. Types c o items (b.to ∷ b.later)) e b.typing))))

  end_moves : (item : Instr) (items : List Instr) (constructs next : List Construct) → open_behind item constructs ≡ Some next
      → items_behind_end constructs (item ∷ items) ≡ items_behind_end next items
  end_moves End items [] next e = absurd (cc e)
  end_moves item items [] next e = ap (λ o. items_behind_end (unwrap_or o []) items) e
  end_moves item items (x ∷ constructs) next e = ap (λ o. items_behind_end (unwrap_or o (x ∷ constructs)) items) e

  ended_at : (item : Instr) (items : List Instr) (outer : List Open) (constructs : List Construct) (inner : List Open) (one : Open) (from : List WasmType) → EndedBehind items outer
      → (b : Behind item items (inner ++ one ∷ outer) from) → Met c one outer from b.behind b.to item constructs inner → Ended constructs inner one outer (item ∷ items)
  ended_at item items outer constructs inner one from again b (moved _ _ _ m) =
      subst (λ rest. Onward c (inner ++ one ∷ outer) (item ∷ items) outer (one.lower ++ one.type.results) rest) (sym (end_moves item items constructs m.next m.opens))
      (onto item items outer inner m.within m.next one one from again b m.alike m.are refl)
  ended_at _ items outer _ _ one from again b (own_else rule) =
      onto Else items outer [] [] [] one (opened else_part one.type one.lower) from again b tt rule.inside refl
  ended_at _ items outer _ _ one from again b (own_end rule) =
      past End items (one ∷ outer) from b.behind b.to outer (one.lower ++ one.type.results) items b.rule
      (subst (λ o. Onward c o items outer (one.lower ++ one.type.results) items) (sym rule.inside)
      (here outer items (one.lower ++ one.type.results) b.later
      (subst (λ o. Types c o items ((one.lower ++ one.type.results) ∷ b.later)) rule.inside (subst (λ to. Types c b.behind items (to ∷ b.later)) rule.behind b.typing))))

  -- from inside a construct to what stands behind its end
  pub ended : (items : List Instr) (outer : List Open) (constructs : List Construct) (inner : List Open) (one : Open) (from : List WasmType) (later : List (List WasmType))
      → AreOpenAs c constructs inner → Types c (inner ++ one ∷ outer) items (from ∷ later) → Ended constructs inner one outer items
  ended [] outer constructs inner one from later alike h = absurd (unended inner one outer from later h)
  ended (item ∷ items) outer constructs inner one from later alike h =
      let b = behind_item item items (inner ++ one ∷ outer) from later h in
      ended_at item items outer constructs inner one from (λ constructs inner one from later alike t. ended items outer constructs inner one from later alike t) b
      (met item constructs inner one outer from b.behind b.to alike b.rule)

  -- ---- the else part of an if

  -- what is open in the else part, and the place where it begins: the kind is that of the then part where there is no else
  pub record InElse (type : FuncType) (lower : List WasmType) (outer : List Open) (constructs : List Construct) (inner : List Open) (items : List Instr) : Type 0 where
    pub kind : Kind
    pub taken : taken_by kind type ≡ type.results
    pub onward : Onward c (inner ++ opened then_part type lower ∷ outer) items (opened kind type lower ∷ outer) type.params (items_of_else constructs items)

  abbrev InElseBehind : FuncType → List WasmType → List Instr → List Open → Type 0
  InElseBehind type lower items outer = (constructs : List Construct) (inner : List Open) (from : List WasmType) (later : List (List WasmType)) → AreOpenAs c constructs inner
      → Types c (inner ++ opened then_part type lower ∷ outer) items (from ∷ later) → InElse type lower outer constructs inner items

  else_moves : (item : Instr) (items : List Instr) (constructs next : List Construct) → open_behind item constructs ≡ Some next
      → items_of_else constructs (item ∷ items) ≡ items_of_else next items
  else_moves Else items [] next e = absurd (cc e)
  else_moves End items [] next e = absurd (cc e)
  else_moves item items [] next e = ap (λ o. items_of_else (unwrap_or o []) items) e
  else_moves item items (x ∷ constructs) next e = ap (λ o. items_of_else (unwrap_or o (x ∷ constructs)) items) e

  module _ (type : FuncType) (lower : List WasmType) (outer : List Open) where
    abbrev Within : List Open → List Open
    Within inner = inner ++ opened then_part type lower ∷ outer

    parted_at : (item : Instr) (items : List Instr) (constructs : List Construct) (inner : List Open) (from : List WasmType) (later : List (List WasmType)) → InElseBehind type lower items outer
        → (b : Behind item items (Within inner) from) → Types c (Within inner) (item ∷ items) (from ∷ later)
        → Met c (opened then_part type lower) outer from b.behind b.to item constructs inner → InElse type lower outer constructs inner (item ∷ items)
    parted_at item items constructs inner from later again b h (moved _ _ _ m) =
        let s = again m.next m.within b.to b.later m.alike (subst (λ o. Types c o items (b.to ∷ b.later)) m.are b.typing) in
        record {
          kind = s.kind;
          taken = s.taken;
          onward = past item items (Within inner) from b.behind b.to (opened s.kind type lower ∷ outer) type.params (items_of_else constructs (item ∷ items)) b.rule
              (subst (λ o. Onward c o items (opened s.kind type lower ∷ outer) type.params (items_of_else constructs (item ∷ items))) (sym m.are)
              (subst (λ rest. Onward c (Within m.within) items (opened s.kind type lower ∷ outer) type.params rest) (sym (else_moves item items constructs m.next m.opens)) s.onward));
        }
    parted_at _ items _ _ from later again b h (own_else rule) =
        let behind : List Open = opened else_part type lower ∷ outer in
        record {
          kind = else_part;
          taken = refl;
          onward = past Else items (Within []) from b.behind b.to behind type.params items b.rule
              (subst (λ o. Onward c o items behind type.params items) (sym rule.inside)
              (here behind items type.params b.later
              (subst (λ o. Types c o items (type.params ∷ b.later)) rule.inside (subst (λ to. Types c b.behind items (to ∷ b.later)) rule.behind b.typing))));
        }
    parted_at _ items _ _ from later again b h (own_end rule) =
        let empty : from ≡ type.params = rule.before ∙ sym (rule.missing refl) in
        record {
          kind = then_part;
          taken = refl;
          onward = here (Within []) (End ∷ items) type.params later (subst (λ stack. Types c (Within []) (End ∷ items) (stack ∷ later)) empty h);
        }

  -- from inside the then part of an if to its else part
  pub parted : (type : FuncType) (lower : List WasmType) (items : List Instr) (outer : List Open) (constructs : List Construct) (inner : List Open) (from : List WasmType) (later : List (List WasmType))
      → AreOpenAs c constructs inner → Types c (inner ++ opened then_part type lower ∷ outer) items (from ∷ later) → InElse type lower outer constructs inner items
  parted type lower [] outer constructs inner from later alike h = absurd (unended inner (opened then_part type lower) outer from later h)
  parted type lower (item ∷ items) outer constructs inner from later alike h =
      let b = behind_item item items (inner ++ opened then_part type lower ∷ outer) from later h in
      parted_at type lower outer item items constructs inner from later (λ constructs inner from later alike t. parted type lower items outer constructs inner from later alike t) b h
      (met item constructs inner (opened then_part type lower) outer from b.behind b.to alike b.rule)

  -- ---- places of a body

  module _ (body : List Instr) where
    -- a later place than a place of a body is a place of it
    pub place_onward : (open_ones inner : List Open) (from stack : List WasmType) (items rest : List Instr)
        → IsRest c body open_ones from items → Onward c open_ones items inner stack rest → IsRest c body inner stack rest
    place_onward open_ones inner from stack items rest r o =
        let left : rest ≡ drop (r.place + o.steps) body = o.left ∙ ap (drop o.steps) r.left ∙ drop-drop o.steps r.place body in
        record {
          place = r.place + o.steps;
          inside = omega (arith, r.inside, o.inside, ap length r.left, length-drop r.place body);
          left = left;
          later = o.later;
          typing = o.typing;
        }

    -- behind the next item
    pub next_place : (item : Instr) (items : List Instr) (outer : List Open) (from : List WasmType) → IsRest c body outer from (item ∷ items)
        → (behind : List Open) × (to : List WasmType) × Rule c item outer from behind to × IsRest c body behind to items
    next_place item items outer from r =
        let b = behind_item item items outer from r.later r.typing in (
          b.behind,
          b.to,
          b.rule,
          place_onward outer b.behind from b.to (item ∷ items) items r
              (past item items outer from b.behind b.to b.behind b.to items b.rule (here b.behind items b.to b.later b.typing)),
        )

    -- behind the end of the innermost construct
    pub place_behind_end : (one : Open) (outer : List Open) (from : List WasmType) (items : List Instr)
        → IsRest c body (one ∷ outer) from items → IsRest c body outer (one.lower ++ one.type.results) (items_behind_end [] items)
    place_behind_end one outer from items r =
        place_onward (one ∷ outer) outer from (one.lower ++ one.type.results) items (items_behind_end [] items) r (ended items outer [] [] one from r.later tt r.typing)

    -- the last place
    pub at_last : (outer : List Open) (from : List WasmType) → IsRest c body outer from [] → (outer ≡ []) × (from ≡ c.results)
    at_last outer from r = last outer from r.later r.typing
      where
        last : (outer : List Open) (from : List WasmType) (later : List (List WasmType)) → Types c outer [] (from ∷ later) → (outer ≡ []) × (from ≡ c.results)
        last outer from [] h = h
        last outer from (to ∷ later) h = absurd h
