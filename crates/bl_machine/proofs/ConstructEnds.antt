-- The places that were found for the ends of constructs are those where the rules go on.
use Rattle.std.proofs.Common.{◌≡◌, ℕ, zero, suc, ◌+◌, List, [], ◌∷◌, length, drop, get_or, Some, None, slice_get, refl, sym, ap, ◌∙◌, subst, arith}
use Rattle.std.specs.Prelude.{option_and_then, unwrap_or}
use Rattle.bl_wasm.specs.OpenConstructs.{Kind, of_block, of_loop, then_part, else_part, Construct, construct, kind_behind_else, behind_else}
use Rattle.bl_wasm.specs.declared.instruction.Instr.{Instr}
use Rattle.bl_wasm.specs.declared.instruction.Instr.TheVariants.{Block, Loop, If, Else, End}
use Rattle.bl_reduce.specs.Control.{items_behind_end, items_of_else}
use Rattle.bl_wasm.specs.declared.linked.Signature.{Signature}
use Rattle.bl_machine.specs.declared.jumps.Ends.{Ends}
use Rattle.bl_machine.specs.declared.jumps.Jump.{Jump}
use Rattle.bl_machine.specs.Jumps.{counts_of, innermost, open_before, open_at, jumps_from, jumps_of}

abbrev none_of : (A : Type 0) → List A
none_of A = []

drop_none : (A : Type 0) (n : ℕ) → drop n (none_of A) ≡ none_of A
drop_none A zero = refl
drop_none A (suc n) = refl

drop_all : (items : List Instr) → drop (length items) items ≡ []
drop_all [] = refl
drop_all (item ∷ items) = drop_all items

module _ (item : Instr) (rest : List Instr) where
  nothing : (n : ℕ) → item ∷ rest ≡ drop n [] → ⊥
  nothing n e = subst IsCons (e ∙ drop_none Instr n) tt
    where
      IsCons : List Instr → Type 0
      IsCons [] = ⊥
      IsCons (x ∷ xs) = Unit {0}

  -- behind an item that stands at a place
  pub behind : (place : ℕ) (body : List Instr) → item ∷ rest ≡ drop place body → rest ≡ drop (place + 1) body
  behind place [] e = absurd (nothing place e)
  behind zero (x ∷ body) e = ap (drop 1) e
  behind (suc place) (x ∷ body) e =
      let next : suc (place + 1) ≡ suc place + 1 = omega arith in
      subst (λ n. rest ≡ drop n (x ∷ body)) next (behind place body e)

  -- the item at a place
  pub item_there : (place : ℕ) (body : List Instr) → item ∷ rest ≡ drop place body → slice_get body place ≡ Some item
  item_there place [] e = absurd (nothing place e)
  item_there zero (x ∷ body) e = cc
  item_there (suc place) (x ∷ body) e = item_there place body e

-- no item at a place
pub none_there : (place : ℕ) (body : List Instr) → [] ≡ drop place body → slice_get body place ≡ None
none_there place [] e = refl
none_there zero (x ∷ body) e = cc
none_there (suc place) (x ∷ body) e = none_there place body e

-- an `else` leaves as many constructs open as there were
as_many : (kind : Kind) (one : Construct) (ones : List Construct) → length (unwrap_or (option_and_then (λ k. Some (construct k one.type ∷ ones)) (kind_behind_else kind)) (one ∷ ones)) ≡ suc (length ones)
as_many of_block one ones = refl
as_many of_loop one ones = refl
as_many then_part one ones = refl
as_many else_part one ones = refl

-- ---- the ends

module _ (body : List Instr) where
  abbrev last : ℕ
  last = length body

  -- the construct that is the innermost but so many
  abbrev around : ℕ → List Ends → Ends
  around depth open_ones = innermost last (drop depth open_ones)

  -- where these constructs are open within one, so many of them, its parts stand at the places that were found
  pub record FindsEnds (depth : ℕ) (within : List Construct) (items : List Instr) (open_ones : List Ends) : Type 0 where
    pub end : items_behind_end within items ≡ drop (around depth open_ones).end body
    pub else_part : items_of_else within items ≡ drop (around depth open_ones).else_part body

  -- with one construct fewer round the items
  fewer : (depth : ℕ) (within : List Construct) (items : List Instr) (open_ones : List Ends) → FindsEnds (suc depth) within items open_ones
      → (items_behind_end within items ≡ drop (around depth (drop 1 open_ones)).end body) × (items_of_else within items ≡ drop (around depth (drop 1 open_ones)).else_part body)
  fewer depth within items [] h =
      let none : around depth (drop 1 []) ≡ around (suc depth) [] = ap (innermost last) (drop_none Ends depth) in
      (rw none h.end, rw none h.else_part)
  fewer depth within items (ends ∷ open_ones) h = (h.end, h.else_part)

  module _ (place : ℕ) (items : List Instr) (outer : List Ends) (here : items ≡ drop (place + 1) body) where
    ends_of_item : (item : Instr) (depth : ℕ) (within : List Construct) → length within ≡ depth → item ∷ items ≡ drop place body
        → ((depth : ℕ) (within : List Construct) → length within ≡ depth → FindsEnds depth within items outer) → FindsEnds depth within (item ∷ items) (open_before last place item outer)
    ends_of_item (Block r) depth [] n e h = let i = fewer depth _ items outer (h (suc depth) (construct of_block r ∷ []) (ap suc n)) in record { end = i.0; else_part = i.1 }
    ends_of_item (Loop r) depth [] n e h = let i = fewer depth _ items outer (h (suc depth) (construct of_loop r ∷ []) (ap suc n)) in record { end = i.0; else_part = i.1 }
    ends_of_item (If r) depth [] n e h = let i = fewer depth _ items outer (h (suc depth) (construct then_part r ∷ []) (ap suc n)) in record { end = i.0; else_part = i.1 }
    ends_of_item (Block r) depth (one ∷ ones) n e h =
        let i = fewer depth _ items outer (h (suc depth) (construct of_block r ∷ one ∷ ones) (ap suc n)) in record { end = i.0; else_part = i.1 }
    ends_of_item (Loop r) depth (one ∷ ones) n e h =
        let i = fewer depth _ items outer (h (suc depth) (construct of_loop r ∷ one ∷ ones) (ap suc n)) in record { end = i.0; else_part = i.1 }
    ends_of_item (If r) depth (one ∷ ones) n e h =
        let i = fewer depth _ items outer (h (suc depth) (construct then_part r ∷ one ∷ ones) (ap suc n)) in record { end = i.0; else_part = i.1 }
    ends_of_item Else depth [] n e h = subst (λ d. FindsEnds d [] (Else ∷ items) (open_before last place Else outer)) n (record { end = (h 0 [] refl).end; else_part = here })
    ends_of_item Else depth (one ∷ ones) n e h =
        let i = fewer (length ones) _ items outer (h (suc (length ones)) (unwrap_or (behind_else (one ∷ ones)) (one ∷ ones)) (as_many one.kind one ones)) in
        subst (λ d. FindsEnds d (one ∷ ones) (Else ∷ items) (open_before last place Else outer)) n (record { end = i.0; else_part = i.1 })
    ends_of_item End depth [] n e h = subst (λ d. FindsEnds d [] (End ∷ items) (open_before last place End outer)) n (record { end = here; else_part = e })
    ends_of_item End depth (one ∷ ones) n e h =
        let i = h (length ones) ones refl in
        subst (λ d. FindsEnds d (one ∷ ones) (End ∷ items) (open_before last place End outer)) n (record { end = i.end; else_part = i.else_part })
    ends_of_item item depth [] n e h = let i = h depth [] n in record { end = i.end; else_part = i.else_part }
    ends_of_item item depth (one ∷ ones) n e h = let i = h depth (one ∷ ones) n in record { end = i.end; else_part = i.else_part }

  lands : (place : ℕ) (items : List Instr) → items ≡ drop place body → (depth : ℕ) (within : List Construct) → length within ≡ depth → FindsEnds depth within items (open_at last place items)
  lands place [] e depth within n =
      let none : around depth [] ≡ innermost last [] = ap (innermost last) (drop_none Ends depth) in
      record { end = rw (none, drop_all) refl; else_part = rw (none, drop_all) refl }
  lands place (item ∷ items) e depth within n =
      let here = behind item items place body e in
      ends_of_item place items (open_at last (place + 1) items) here item depth within n e (λ depth within n. lands (place + 1) items here depth within n)

  -- ---- the list of all

  module _ (types : List Signature) where
    abbrev jump_at : ℕ → Instr → List Instr → Jump
    jump_at place item rest = record { ends = innermost last (open_at last place rest); counts = counts_of types item }

    looked_up : (place k : ℕ) (items : List Instr) (item : Instr) (rest : List Instr) (d : Jump) → item ∷ rest ≡ drop k items
        → get_or (jumps_from types last place items) k d ≡ jump_at (place + k + 1) item rest
    looked_up place k [] item rest d e = absurd (nothing item rest k e)
    looked_up place zero (x ∷ items) item rest d e =
        let same : items ≡ rest = sym (ap (drop 1) e) in
        let first : x ≡ item = cc in
        let there : place + 1 ≡ place + 0 + 1 = omega arith in
        ap (λ n. jump_at n x items) there ∙ ap (λ r. jump_at (place + 0 + 1) x r) same ∙ ap (λ i. jump_at (place + 0 + 1) i rest) first
    looked_up place (suc k) (x ∷ items) item rest d e =
        let there : (place + 1) + k + 1 ≡ place + suc k + 1 = omega arith in
        subst (λ n. get_or (jumps_from types last (place + 1) items) k d ≡ jump_at n item rest) there (looked_up (place + 1) k items item rest d e)

-- the places that were found for an item lead to where the rules go on
pub record IsJump (body rest : List Instr) (ends : Ends) : Type 0 where
  pub end : items_behind_end [] rest ≡ drop ends.end body
  pub else_part : items_of_else [] rest ≡ drop ends.else_part body

module _ (types : List Signature) (place : ℕ) (body : List Instr) (item : Instr) (rest : List Instr) (d : Jump) (e : item ∷ rest ≡ drop place body) where
  got : get_or (jumps_of types body) place d ≡ jump_at body types (place + 1) item rest
  got =
      let there : 0 + place + 1 ≡ place + 1 = omega arith in
      looked_up body types 0 place body item rest d e ∙ ap (λ n. jump_at body types n item rest) there

  pub jump_there : IsJump body rest (get_or (jumps_of types body) place d).ends
  jump_there =
      let l = lands body (place + 1) rest (behind item rest place body e) 0 [] refl in
      subst (λ jump. IsJump body rest jump.ends) (sym got) (record { end = l.end; else_part = l.else_part })

  pub counts_there : (get_or (jumps_of types body) place d).counts ≡ counts_of types item
  counts_there = ap (λ jump. jump.counts) got
