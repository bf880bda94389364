-- Items nest exactly where they close what they open.
use Rattle.std.proofs.Common.{append-nil, None, ◌≡◌, List, [], ◌∷◌, ◌++◌, Some, ◌⊎◌, inl, inr, refl, subst, ap, ◌∙◌, Option}
use Rattle.std.specs.Prelude.{option_and_then}
use Rattle.std.proofs.lemmas.List.{append_assoc}
use Rattle.bl_wasm.specs.Instructions.{Nests, none, plain, block, loop, if_then, if_else, IsPlain}
use Rattle.bl_wasm.specs.OpenConstructs.{Kind, of_block, of_loop, then_part, else_part, Construct, construct, behind_else, open_behind, open_through, Closes}
use Rattle.bl_wasm.specs.declared.types.BlockType.{BlockType}
use Rattle.bl_wasm.specs.declared.instruction.Instr.{Instr}
use Rattle.bl_wasm.specs.declared.instruction.Instr.TheVariants.{Block, Loop, If, Else, End}

-- a plain item leaves open what is open
behind_plain : (item : Instr) (outer : List Construct) → IsPlain item → open_behind item outer ≡ Some outer
behind_plain (Block type) outer p = absurd p
behind_plain (Loop type) outer p = absurd p
behind_plain (If type) outer p = absurd p
behind_plain Else outer p = absurd p
behind_plain End outer p = absurd p
behind_plain item outer p = refl

-- items that nest stand anywhere
pub closes_after : (items : List Instr) → Nests items → (outer : List Construct) (rest : List Instr) → Closes outer rest → Closes outer (items ++ rest)
closes_after _ none outer rest h = h
closes_after _ (plain item items p n) outer rest h = (outer, behind_plain item outer p, closes_after items n outer rest h)
closes_after _ (block type inside more n m) outer rest h =
    let within = construct of_block type ∷ outer in
    (within, refl, rw (append_assoc inside (End ∷ more) rest) (closes_after inside n within (End ∷ (more ++ rest)) (outer, refl, closes_after more m outer rest h)))
closes_after _ (loop type inside more n m) outer rest h =
    let within = construct of_loop type ∷ outer in
    (within, refl, rw (append_assoc inside (End ∷ more) rest) (closes_after inside n within (End ∷ (more ++ rest)) (outer, refl, closes_after more m outer rest h)))
closes_after _ (if_then type inside more n m) outer rest h =
    let within = construct then_part type ∷ outer in
    (within, refl, rw (append_assoc inside (End ∷ more) rest) (closes_after inside n within (End ∷ (more ++ rest)) (outer, refl, closes_after more m outer rest h)))
closes_after _ (if_else type first second more f s m) outer rest h =
    let within = construct then_part type ∷ outer in
    let behind = construct else_part type ∷ outer in
    let ended : Closes behind (second ++ End ∷ (more ++ rest)) = closes_after second s behind (End ∷ (more ++ rest)) (outer, refl, closes_after more m outer rest h) in (
      within,
      refl,
      rw (append_assoc (first ++ Else ∷ second) (End ∷ more) rest, append_assoc first (Else ∷ second) (End ∷ (more ++ rest)))
          (closes_after first f within (Else ∷ (second ++ End ∷ (more ++ rest))) (behind, refl, ended)),
    )

pub closes : (items : List Instr) → Nests items → Closes [] items
closes items n = rw (← append-nil items) (closes_after items n [] [] refl)

-- one construct that is open ends in the items: what stands before its end nests
record Ended (Rest : List Instr → Type 0) (items : List Instr) : Type 0 where
  inside : List Instr
  rest : List Instr
  split : items ≡ inside ++ End ∷ rest
  nests : Nests inside
  further : Rest rest

-- or its then part ends, and then its else part
record Parted (Rest : List Instr → Type 0) (items : List Instr) : Type 0 where
  first : List Instr
  second : List Instr
  rest : List Instr
  split : items ≡ first ++ Else ∷ second ++ End ∷ rest
  nests : Nests first
  nests_too : Nests second
  further : Rest rest

-- what is left of a construct of that kind, and of what it stands in
abbrev ParsedIn : Kind → (List Instr → Type 0) → List Instr → Type 0
ParsedIn of_block Rest items = Ended Rest items
ParsedIn of_loop Rest items = Ended Rest items
ParsedIn then_part Rest items = Ended Rest items ⊎ Parted Rest items
ParsedIn else_part Rest items = Ended Rest items

-- the items by the constructs that are open, innermost first
abbrev Parsed : List Construct → List Instr → Type 0
Parsed [] items = Nests items
Parsed (one ∷ outer) items = ParsedIn one.kind (Parsed outer) items

-- what keeps items nested may stand before them
abbrev Leads : List Instr → Type 0
Leads group = (items : List Instr) → Nests items → Nests (group ++ items)

ended_lead : (group : List Instr) (Rest : List Instr → Type 0) (items : List Instr) → Leads group → Ended Rest items → Ended Rest (group ++ items)
ended_lead group Rest items lead e = record {
  inside = group ++ e.inside;
  rest = e.rest;
  split = rw (e.split, append_assoc group e.inside (End ∷ e.rest)) refl;
  nests = lead e.inside e.nests;
  further = e.further;
}

parted_lead : (group : List Instr) (Rest : List Instr → Type 0) (items : List Instr) → Leads group → Parted Rest items → Parted Rest (group ++ items)
parted_lead group Rest items lead e = record {
  first = group ++ e.first;
  second = e.second;
  rest = e.rest;
  split = rw (e.split, append_assoc group e.first (Else ∷ e.second), append_assoc group (e.first ++ Else ∷ e.second) (End ∷ e.rest)) refl;
  nests = lead e.first e.nests;
  nests_too = e.nests_too;
  further = e.further;
}

leads_in : (group : List Instr) (kind : Kind) (Rest : List Instr → Type 0) (items : List Instr) → Leads group
    → ParsedIn kind Rest items → ParsedIn kind Rest (group ++ items)
leads_in group of_block Rest items lead p = ended_lead group Rest items lead p
leads_in group of_loop Rest items lead p = ended_lead group Rest items lead p
leads_in group then_part Rest items lead (inl p) = inl (ended_lead group Rest items lead p)
leads_in group then_part Rest items lead (inr p) = inr (parted_lead group Rest items lead p)
leads_in group else_part Rest items lead p = ended_lead group Rest items lead p

leads : (group : List Instr) (outer : List Construct) (items : List Instr) → Leads group → Parsed outer items → Parsed outer (group ++ items)
leads group [] items lead p = lead items p
leads group (one ∷ outer) items lead p = leads_in group one.kind (Parsed outer) items lead p

-- a construct and what stands behind its end
whole : (outer : List Construct) (item : Instr) (items inside rest : List Instr) → items ≡ inside ++ End ∷ rest
    → ((more : List Instr) → Nests more → Nests (item ∷ inside ++ End ∷ more)) → Parsed outer rest → Parsed outer (item ∷ items)
whole outer item items inside rest e lead p =
    let q = leads (item ∷ inside ++ End ∷ []) outer rest (λ more n. rw (append_assoc inside (End ∷ []) more) (lead more n)) p in
    rw e (rw (append_assoc inside (End ∷ []) rest) at q)

-- an if without else, or with one
chosen : (type : BlockType) (outer : List Construct) (items : List Instr) → ParsedIn then_part (Parsed outer) items → Parsed outer (If type ∷ items)
chosen type outer items (inl p) = whole outer (If type) items p.inside p.rest p.split (λ more n. if_then type p.inside more p.nests n) p.further
chosen type outer items (inr p) =
    whole outer (If type) items (p.first ++ Else ∷ p.second) p.rest p.split (λ more n. if_else type p.first p.second more p.nests p.nests_too n) p.further

-- an `end` closes what is open
at_end : (Rest : List Instr → Type 0) (items : List Instr) → Rest items → Ended Rest (End ∷ items)
at_end Rest items p = record { inside = []; rest = items; split = refl; nests = none; further = p }

ended_in : (kind : Kind) (Rest : List Instr → Type 0) (items : List Instr) → Rest items → ParsedIn kind Rest (End ∷ items)
ended_in of_block Rest items p = at_end Rest items p
ended_in of_loop Rest items p = at_end Rest items p
ended_in then_part Rest items p = inl (at_end Rest items p)
ended_in else_part Rest items p = at_end Rest items p

-- an `else` ends the then part
parted : (Rest : List Instr → Type 0) (items : List Instr) → Ended Rest items → Parted Rest (Else ∷ items)
parted Rest items p = record { first = []; second = p.inside; rest = p.rest; split = rw p.split refl; nests = none; nests_too = p.nests; further = p.further }

parted_in : (kind : Kind) (type : BlockType) (outer next : List Construct) (items : List Instr)
    → behind_else (construct kind type ∷ outer) ≡ Some next → Parsed next items → ParsedIn kind (Parsed outer) (Else ∷ items)
parted_in of_block type outer next items e p = absurd (cc e)
parted_in of_loop type outer next items e p = absurd (cc e)
parted_in then_part type outer next items e p =
    let same : next ≡ construct else_part type ∷ outer = cc e in
    inr (parted (Parsed outer) items (subst (λ open_ones. Parsed open_ones items) same p))
parted_in else_part type outer next items e p = absurd (cc e)

-- what is open next is known
pub known_open : (known next : List Construct) (items : List Instr) → Some known ≡ Some next → Closes next items → Closes known items
known_open known next items e h = let same : next ≡ known = cc e in rw same at h

parsed : (items : List Instr) (outer : List Construct) → Closes outer items → Parsed outer items
parsed [] [] h = none
parsed [] (one ∷ outer) h = absurd (cc h)
parsed (Block type ∷ items) outer h =
    let p : Ended (Parsed outer) items = parsed items (construct of_block type ∷ outer) (known_open (construct of_block type ∷ outer) h.0 items h.1 h.2) in
    whole outer (Block type) items p.inside p.rest p.split (λ more n. block type p.inside more p.nests n) p.further
parsed (Loop type ∷ items) outer h =
    let p : Ended (Parsed outer) items = parsed items (construct of_loop type ∷ outer) (known_open (construct of_loop type ∷ outer) h.0 items h.1 h.2) in
    whole outer (Loop type) items p.inside p.rest p.split (λ more n. loop type p.inside more p.nests n) p.further
parsed (If type ∷ items) outer h = chosen type outer items (parsed items (construct then_part type ∷ outer) (known_open (construct then_part type ∷ outer) h.0 items h.1 h.2))
parsed (Else ∷ items) [] h = absurd (cc h.1)
parsed (Else ∷ items) (one ∷ outer) h = parted_in one.kind one.type outer h.0 items h.1 (parsed items h.0 h.2)
parsed (End ∷ items) [] h = absurd (cc h.1)
parsed (End ∷ items) (one ∷ outer) h = ended_in one.kind (Parsed outer) items (parsed items outer (known_open outer h.0 items h.1 h.2))
parsed (item ∷ items) outer h = leads (item ∷ []) outer items (λ more n. plain item more tt n) (parsed items outer (known_open outer h.0 items h.1 h.2))

pub nests : (items : List Instr) → Closes [] items → Nests items
nests items h = parsed items [] h

-- what is open behind items that close what is open: nothing
pub through : (items : List Instr) (outer : List Construct) → Closes outer items → open_through items outer ≡ Some []
through [] outer h = ap (λ (o : List Construct). Some o) h
through (item ∷ items) outer h = ap (λ (o : Option (List Construct)). option_and_then (open_through items) o) h.1 ∙ through items h.0 h.2

pub from_through : (items : List Instr) (outer : List Construct) → open_through items outer ≡ Some [] → Closes outer items
from_through [] outer e = cc e
from_through (item ∷ items) outer e = by_case (open_behind item outer) refl e (λ o k. from_through items o k)
  where
    by_case : (found : Option (List Construct)) → open_behind item outer ≡ found → option_and_then (open_through items) found ≡ Some []
        → ((o : List Construct) → open_through items o ≡ Some [] → Closes o items) → Closes outer (item ∷ items)
    by_case None is e again = absurd (cc e)
    by_case (Some o) is e again = (o, is, again o e)
