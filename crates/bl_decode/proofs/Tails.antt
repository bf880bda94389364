-- Sections with custom sections among them.
use Rattle.std.proofs.Common.{◌≡◌, ◌⊎◌, inl, inr, ℕ, zero, suc, ◌+◌, ◌<◌, ◌≤◌, List, [], ◌∷◌, ◌++◌, length, append_assoc, append-nil, ap, ap₂, sym, ◌∙◌, refl, subst, arith, drop, length-drop, slice_get, Some, Result, Ok, Err}
use Rattle.std.specs.Result.{IsErrAnd}
use Rattle.std.proofs.lemmas.List.{drop_all}
use Rattle.std.proofs.lemmas.Option.{slice_get_within}
use Rattle.std.proofs.lemmas.Result.{err_from_is_err_and}
use Rattle.bl_base.proofs.Lists.{rest_same}
use Rattle.bl_leb.specs.Grammar.{Spellings, ◌⨾◌}
use Rattle.bl_wasm.specs.Values.{each}
use Rattle.bl_wasm.specs.Sections.{custom_section}
use Rattle.bl_wasm.specs.Modules.{◌▷◌}
use Rattle.bl_wasm.specs.declared.module.CustomSection.{CustomSection}
use Rattle.bl_code.specs.ReaderAnswers.{IsAt, Refuses}
use Rattle.bl_code.specs.declared.error.CodeError.{CodeError}
use Rattle.bl_code.specs.declared.error.CodeError.TheVariants.{Malformed, Memory}
use Rattle.bl_code.proofs.Vectors.{each_more}
use Rattle.bl_code.proofs.Places.{stands, is_at, at_front}
use Rattle.bl_decode.specs.Chains.{Begins, IsSection, CustomFirst, IsTail, IsLink, CustomsRead, CustomsPassed, CustomMalformed, TailRead, ReadsCustoms, ReadsSection, ReadsTail}
use Rattle.bl_decode.proofs.FirstBytes.{one_first, begins_all, begins_rest, begins_at, at_begins}
use Rattle.bl_decode.proofs.PrefixFreeCustoms.{custom_prefix_free, custom_begins}

-- custom sections alone
custom_first : (customs : List CustomSection) (bytes : List ℕ) → each custom_section customs bytes → Begins 0 bytes → CustomFirst (each custom_section) customs bytes
custom_first [] bytes h begins = absurd (let e : [] ≡ 0 ∷ begins.behind = sym h ∙ begins.whole in cc)
custom_first (c ∷ cs) bytes h begins = record { custom = c; others = cs; all = refl; front = h.front; behind = h.rest; whole = h.whole; first = h.first; second = h.second }

customs_begin : (customs : List CustomSection) (bytes : List ℕ) → each custom_section customs bytes → (bytes ≡ []) ⊎ Begins 0 bytes
customs_begin [] bytes h = inl h
customs_begin (c ∷ cs) bytes h = inr (begins_all 0 h.front h.rest bytes h.whole (custom_begins c h.front h.first))

customs_one : (customs others : List CustomSection) (bytes : List ℕ) → each custom_section customs bytes → each custom_section others bytes → customs ≡ others
customs_one [] [] bytes p q = refl
customs_one [] (d ∷ ds) bytes p q =
    let begins = begins_all 0 q.front q.rest bytes q.whole (custom_begins d q.front q.first) in
    absurd (let e : [] ≡ 0 ∷ begins.behind = sym p ∙ begins.whole in cc)
customs_one (c ∷ cs) [] bytes p q =
    let begins = begins_all 0 p.front p.rest bytes p.whole (custom_begins c p.front p.first) in
    absurd (let e : [] ≡ 0 ∷ begins.behind = sym q ∙ begins.whole in cc)
customs_one (c ∷ cs) (d ∷ ds) bytes p q =
    let whole : p.front ++ p.rest ≡ q.front ++ q.rest = sym p.whole ∙ q.whole in
    let same = (custom_prefix_free.same c d).both p.front q.front p.rest q.rest p.first q.first whole in
    let rests = rest_same p.front q.front p.rest q.rest same.0 whole in
    let others = customs_one cs ds q.rest (subst (each custom_section cs) rests p.second) q.second in
    let first = same.1 in
    cc

-- a custom section in front belongs to what has one in front
pub behind_custom : (Q : List CustomSection → Spellings) (customs : List CustomSection) (bytes : List ℕ) (h : CustomFirst Q customs bytes) (c : CustomSection) (front rest : List ℕ) → bytes ≡ front ++ rest → custom_section c front → (others : List CustomSection) × (customs ≡ c ∷ others) × Q others rest
behind_custom Q customs bytes h c front rest e first =
    let whole : h.front ++ h.behind ≡ front ++ rest = sym h.whole ∙ e in
    let same = (custom_prefix_free.same h.custom c).both h.front front h.behind rest h.first first whole in
    let rests = rest_same h.front front h.behind rest same.0 whole in
    (h.others, h.all ∙ ap (λ d. d ∷ h.others) same.1, subst (Q h.others) rests h.second)

-- custom sections in front belong to a tail
pub behind_customs : {A : Type 0} {least : ℕ} {Q : A → List CustomSection → Spellings} → IsTail least Q → (x : A) (customs some : List CustomSection) (bytes front rest : List ℕ) → Q x customs bytes → bytes ≡ front ++ rest → each custom_section some front → (others : List CustomSection) × (customs ≡ some ++ others) × Q x others rest
behind_customs {Q} tail x customs [] bytes front rest h e none = (customs, refl, subst (Q x customs) (e ∙ ap (λ t. t ++ rest) none) h)
behind_customs {Q} tail x customs (c ∷ cs) bytes front rest h e some =
    let whole : bytes ≡ some.front ++ (some.rest ++ rest) = e ∙ ap (λ t. t ++ rest) some.whole ∙ append_assoc some.front some.rest rest in
    let begins = begins_all 0 some.front (some.rest ++ rest) bytes whole (custom_begins c some.front some.first) in
    let one = behind_custom (Q x) customs bytes (tail.customs_first x customs bytes h begins) c some.front (some.rest ++ rest) whole some.first in
    let more = behind_customs tail x one.0 cs (some.rest ++ rest) some.rest rest one.2 refl some.second in
    (more.0, one.1 ∙ ap (λ t. c ∷ t) more.1, more.2)

pub end_tail : IsTail 12 (λ (x : Unit {0}). each custom_section)
end_tail = record {
  begins = λ x customs bytes h. elim (customs_begin customs bytes h) [ inl e ↦ inl e | inr b ↦ inr (0, b, inl refl) ];
  customs_first = λ x customs bytes h begins. custom_first customs bytes h begins;
  one = λ x y customs others bytes p q. (refl, customs_one customs others bytes p q);
}

-- ids above 0 and below the least don't begin a tail
pub no_id : {B : Type 0} {least : ℕ} {R : B → List CustomSection → Spellings} (id : ℕ) → IsTail least R → 0 < id → id < least → (y : B) (customs : List CustomSection) (bytes : List ℕ) → R y customs bytes → Begins id bytes → ⊥
no_id id tail positive rising y customs bytes h begins =
    elim (tail.begins y customs bytes h) [
      | inl none ↦ (let e : [] ≡ id ∷ begins.behind = sym none ∙ begins.whole in cc)
      | inr found ↦ (let same = one_first id found.0 bytes begins found.1 in
          elim found.2 [
            | inl none ↦ omega arith
            | inr above ↦ omega arith
          ])
    ]

-- a section, and what follows it
customs_of : {A B : Type 0} {least : ℕ} {S : A → Spellings} {R : B → List CustomSection → Spellings} (id : ℕ) → 0 < id → IsSection id S → IsTail least R → (x : A) (y : B) (customs before after : List CustomSection) (bytes front rest : List ℕ) → customs ≡ before ++ after → each custom_section before front → (S x ⨾ R y after) rest → bytes ≡ front ++ rest → Begins 0 bytes → CustomFirst (S x ▷ R y) customs bytes
customs_of {S} {R} id positive is_section is_tail x y customs [] after bytes front rest all first second e begins =
    let begun = begins_rest 0 front rest bytes e first begins in
    elim (is_section.begins x second.front second.first) [
      | inl none ↦
          let f = is_tail.customs_first y after second.rest second.second (begins_rest 0 second.front second.rest rest second.whole none begun) in
          record {
            custom = f.custom;
            others = f.others;
            all = all ∙ f.all;
            front = f.front;
            behind = f.behind;
            whole = e ∙ ap (λ t. t ++ rest) first ∙ second.whole ∙ ap (λ t. t ++ second.rest) none ∙ f.whole;
            first = f.first;
            second = record {
              before = [];
              after = f.others;
              all = refl;
              spelled = record { front = []; rest = f.behind; whole = refl; first = refl; second = record { front = []; rest = f.behind; whole = refl; first = subst (S x) none second.first; second = f.second } };
            };
          }
      | inr stands ↦ absurd (let same = one_first 0 id rest begun (begins_all id second.front second.rest rest second.whole stands) in omega arith)
    ]
customs_of {S} {R} id positive is_section is_tail x y customs (c ∷ cs) after bytes front rest all first second e begins = record {
  custom = c;
  others = cs ++ after;
  all = all;
  front = first.front;
  behind = first.rest ++ rest;
  whole = e ∙ ap (λ t. t ++ rest) first.whole ∙ append_assoc first.front first.rest rest;
  first = first.first;
  second = record { before = cs; after = after; all = refl; spelled = record { front = first.rest; rest = rest; whole = refl; first = first.second; second = second } };
}

pub chain_customs : {A B : Type 0} {least : ℕ} {S : A → Spellings} {R : B → List CustomSection → Spellings} (id : ℕ) → 0 < id → IsSection id S → IsTail least R → (x : A) (y : B) (customs : List CustomSection) (bytes : List ℕ) → (S x ▷ R y) customs bytes → Begins 0 bytes → CustomFirst (S x ▷ R y) customs bytes
chain_customs {S} {R} id positive is_section is_tail x y customs bytes h begins =
    customs_of {S = S} {R = R} id positive is_section is_tail x y customs h.before h.after bytes h.spelled.front h.spelled.rest h.all h.spelled.first h.spelled.second h.spelled.whole begins

-- what begins with no custom section begins with the section
opened_of : (S : Spellings) (R : List CustomSection → Spellings) (customs before after : List CustomSection) (bytes front rest : List ℕ) → customs ≡ before ++ after → each custom_section before front → (S ⨾ R after) rest → bytes ≡ front ++ rest → (Begins 0 bytes → ⊥) → (S ⨾ R customs) bytes
opened_of S R customs [] after bytes front rest all first second e none =
    let same : bytes ≡ rest = e ∙ ap (λ t. t ++ rest) first in
    subst (λ (t : List CustomSection). (S ⨾ R t) bytes) (sym all) (subst (S ⨾ R after) (sym same) second)
opened_of S R customs (c ∷ cs) after bytes front rest all first second e none =
    absurd (none (begins_all 0 front rest bytes e (begins_all 0 first.front first.rest front first.whole (custom_begins c first.front first.first))))

pub opened : (S : Spellings) (R : List CustomSection → Spellings) (customs : List CustomSection) (bytes : List ℕ) → (S ▷ R) customs bytes → (Begins 0 bytes → ⊥) → (S ⨾ R customs) bytes
opened S R customs bytes h none = opened_of S R customs h.before h.after bytes h.spelled.front h.spelled.rest h.all h.spelled.first h.spelled.second h.spelled.whole none

begins_of : {A B : Type 0} {least : ℕ} {S : A → Spellings} {R : B → List CustomSection → Spellings} (id : ℕ) → id < least → IsSection id S → IsTail least R → (x : A) (y : B) (before after : List CustomSection) (bytes front rest : List ℕ) → each custom_section before front → (S x ⨾ R y after) rest → bytes ≡ front ++ rest → (bytes ≡ []) ⊎ ((n : ℕ) × Begins n bytes × ((n ≡ 0) ⊎ (id ≤ n)))
begins_of id rising is_section is_tail x y [] after bytes front rest first second e =
    let same : bytes ≡ rest = e ∙ ap (λ t. t ++ rest) first in
    elim (is_section.begins x second.front second.first) [
      | inl none ↦
          let inside : bytes ≡ second.rest = same ∙ second.whole ∙ ap (λ t. t ++ second.rest) none in
          elim (is_tail.begins y after second.rest second.second) [
            | inl empty ↦ inl (inside ∙ empty)
            | inr found ↦ inr (found.0, record { behind = found.1.behind; whole = inside ∙ found.1.whole }, elim found.2 [ inl none ↦ inl none | inr above ↦ inr (omega arith) ])
          ]
      | inr stands ↦ inr (id, begins_all id second.front second.rest bytes (same ∙ second.whole) stands, inr (omega arith))
    ]
begins_of id rising is_section is_tail x y (c ∷ cs) after bytes front rest first second e =
    inr (0, begins_all 0 front rest bytes e (begins_all 0 first.front first.rest front first.whole (custom_begins c first.front first.first)), inl refl)

-- one section and one tail
opened_one : {A B : Type 0} {least : ℕ} {S : A → Spellings} {R : B → List CustomSection → Spellings} (id : ℕ) → 0 < id → id < least → IsSection id S → IsTail least R → (x z : A) (y w : B) (customs others : List CustomSection) (bytes : List ℕ) → (S x ⨾ R y customs) bytes → (S z ⨾ R w others) bytes → (x ≡ z) × (y ≡ w) × (customs ≡ others)
opened_one {S} {R} id positive rising is_section is_tail x z y w customs others bytes p q =
    elim (is_section.begins x p.front p.first) [
      | inl none ↦
          let left : bytes ≡ p.rest = p.whole ∙ ap (λ t. t ++ p.rest) none in
          elim (is_section.begins z q.front q.first) [
            | inl empty ↦
                let right : bytes ≡ q.rest = q.whole ∙ ap (λ t. t ++ q.rest) empty in
                let same = is_tail.one y w customs others q.rest (subst (R y customs) (sym left ∙ right) p.second) q.second in
                (is_section.missing x z (subst (S x) none p.first) (subst (S z) empty q.first), same.0, same.1)
            | inr stands ↦ absurd (no_id id is_tail positive rising y customs bytes (subst (R y customs) (sym left) p.second) (begins_all id q.front q.rest bytes q.whole stands))
          ]
      | inr begun ↦
          elim (is_section.begins z q.front q.first) [
            | inl empty ↦
                let right : bytes ≡ q.rest = q.whole ∙ ap (λ t. t ++ q.rest) empty in
                absurd (no_id id is_tail positive rising w others bytes (subst (R w others) (sym right) q.second) (begins_all id p.front p.rest bytes p.whole begun))
            | inr stands ↦
                let whole : p.front ++ p.rest ≡ q.front ++ q.rest = sym p.whole ∙ q.whole in
                let fronts = is_section.standing x z p.front q.front p.rest q.rest p.first q.first begun stands whole in
                let rests = rest_same p.front q.front p.rest q.rest fronts.0 whole in
                let same = is_tail.one y w customs others q.rest (subst (R y customs) rests p.second) q.second in
                (fronts.1, same.0, same.1)
          ]
    ]

chain_one : {A B : Type 0} {least : ℕ} {S : A → Spellings} {R : B → List CustomSection → Spellings} (id : ℕ) → 0 < id → id < least → IsSection id S → IsTail least R → (x z : A) (y w : B) (customs others : List CustomSection) (bytes : List ℕ) → (S x ▷ R y) customs bytes → (S z ▷ R w) others bytes → (x ≡ z) × (y ≡ w) × (customs ≡ others)
chain_one {S} {R} id positive rising is_section is_tail x z y w customs others [] p q =
    let none = λ (b : Begins 0 []). let e = b.whole in let no : ⊥ = cc in no in
    opened_one {S = S} {R = R} id positive rising is_section is_tail x z y w customs others [] (opened (S x) (R y) customs [] p none) (opened (S z) (R w) others [] q none)
chain_one {S} {R} id positive rising is_section is_tail x z y w customs others (suc n ∷ bytes) p q =
    let none = λ (b : Begins 0 (suc n ∷ bytes)). let e = b.whole in let no : ⊥ = cc in no in
    opened_one {S = S} {R = R} id positive rising is_section is_tail x z y w customs others (suc n ∷ bytes) (opened (S x) (R y) customs _ p none) (opened (S z) (R w) others _ q none)
chain_one {S} {R} id positive rising is_section is_tail x z y w [] others (zero ∷ bytes) p q =
    let f = chain_customs {S = S} {R = R} id positive is_section is_tail x y [] (zero ∷ bytes) p (record { behind = bytes; whole = refl }) in
    absurd (let e = f.all in cc)
chain_one {S} {R} id positive rising is_section is_tail x z y w (c ∷ cs) others (zero ∷ bytes) p q =
    let begins : Begins 0 (zero ∷ bytes) = record { behind = bytes; whole = refl } in
    let f = chain_customs {S = S} {R = R} id positive is_section is_tail x y (c ∷ cs) (zero ∷ bytes) p begins in
    let g = behind_custom (S z ▷ R w) others (zero ∷ bytes) (chain_customs {S = S} {R = R} id positive is_section is_tail z w others (zero ∷ bytes) q begins) f.custom f.front f.behind f.whole f.first in
    let all = f.all in
    let rest : f.others ≡ cs = cc in
    let same = chain_one {S = S} {R = R} id positive rising is_section is_tail x z y w cs g.0 f.behind (subst (λ (t : List CustomSection). (S x ▷ R y) t f.behind) rest f.second) g.2 in
    let e = g.1 in
    let tails = same.2 in
    (same.0, same.1, cc)

pair_same : {A B : Type 0} (p q : A × B) → p.0 ≡ q.0 → p.1 ≡ q.1 → p ≡ q
pair_same p q a b = ap₂ (λ x y. (x, y)) a b

pub chain_tail : {A B : Type 0} {id least : ℕ} {S : A → Spellings} {R : B → List CustomSection → Spellings} → IsLink id least S R → IsTail id (λ (t : A × B). S t.0 ▷ R t.1)
chain_tail {id} {S} {R} link = record {
  begins = λ t customs bytes h. begins_of {S = S} {R = R} id link.rising link.section link.tail t.0 t.1 h.before h.after bytes h.spelled.front h.spelled.rest h.spelled.first h.spelled.second h.spelled.whole;
  customs_first = λ t customs bytes h begins. chain_customs {S = S} {R = R} id link.positive link.section link.tail t.0 t.1 customs bytes h begins;
  one = λ p q customs others bytes h k.
      let same = chain_one {S = S} {R = R} id link.positive link.rising link.section link.tail p.0 q.0 p.1 q.1 customs others bytes h k in
      (pair_same p q same.0 same.1, same.2);
}

-- behind custom sections a byte 0 begins none: nothing is spelled
pub none_custom : {A : Type 0} {least : ℕ} (Q : A → List CustomSection → Spellings) → IsTail least Q → (bytes : List ℕ) (i : ℕ) → CustomMalformed bytes i → (x : A) (customs : List CustomSection) → Q x customs (drop i bytes) → ⊥
none_custom Q tail bytes i m x customs h =
    let p = stands (each custom_section) bytes i m.end m.customs m.there in
    let rest = behind_customs {Q = Q} tail x customs m.customs (drop i bytes) p.front (drop m.end bytes) h p.whole p.spelled in
    let f = tail.customs_first x rest.0 (drop m.end bytes) rest.2 (begins_at bytes m.end 0 m.zero) in
    m.none f.custom (m.end + length f.front) (is_at custom_section bytes m.end (m.end + length f.front) f.custom (at_front bytes m.end f.front f.behind p.inside f.first f.whole))

-- behind custom sections that stand there, the section and what is left
left_behind : {A B : Type 0} {id least : ℕ} (S : A → Spellings) (R : B → List CustomSection → Spellings) → IsLink id least S R → (bytes : List ℕ) (i place : ℕ) (old new : List CustomSection) → CustomsRead bytes i place old new → (x : A) (y : B) (customs : List CustomSection) → (S x ▷ R y) customs (drop i bytes) → (others : List CustomSection) × (S x ⨾ R y others) (drop place bytes)
left_behind S R link bytes i place old new read x y customs h =
    let p = stands (each custom_section) bytes i place read.customs read.there in
    let rest = behind_customs {Q = λ t. S t.0 ▷ R t.1} (chain_tail {S = S} {R = R} link) (x, y) customs read.customs (drop i bytes) p.front (drop place bytes) h p.whole p.spelled in
    (rest.0, opened (S x) (R y) rest.0 (drop place bytes) rest.2 (λ b. read.ended (at_begins bytes place 0 b)))

-- the id begins no such section
pub none_section : {A B : Type 0} {id least : ℕ} (S : A → Spellings) (R : B → List CustomSection → Spellings) → IsLink id least S R → (bytes : List ℕ) (i place : ℕ) (old new : List CustomSection) → CustomsRead bytes i place old new → slice_get bytes place ≡ Some id → ((x : A) (end : ℕ) → place < end → IsAt S bytes place end x → ⊥) → (x : A) (y : B) (customs : List CustomSection) → (S x ▷ R y) customs (drop i bytes) → ⊥
none_section {id} S R link bytes i place old new read first none x y customs h =
    let left = left_behind S R link bytes i place old new read x y customs h in
    let q = left.1 in
    let begins = begins_at bytes place id first in
    let within = slice_get_within bytes place id first in
    elim (link.section.begins x q.front q.first) [
      | inl empty ↦ no_id id link.tail link.positive link.rising y left.0 q.rest q.second (begins_rest id q.front q.rest (drop place bytes) q.whole empty begins)
      | inr stands ↦
          let longer : 0 < length q.front = omega (arith, ap length stands.whole) in
          none x (place + length q.front) (omega arith) (is_at S bytes place (place + length q.front) x (at_front bytes place q.front q.rest (omega arith) q.first q.whole))
    ]

-- behind the section nothing is spelled
pub none_behind_section : {A B : Type 0} {id least : ℕ} (S : A → Spellings) (R : B → List CustomSection → Spellings) → IsLink id least S R → (bytes : List ℕ) (i place end : ℕ) (old new : List CustomSection) (z : A) → CustomsRead bytes i place old new → IsAt S bytes place end z → (slice_get bytes place ≡ Some id → place < end) → ((y : B) (customs : List CustomSection) → R y customs (drop end bytes) → ⊥) → (x : A) (y : B) (customs : List CustomSection) → (S x ▷ R y) customs (drop i bytes) → ⊥
none_behind_section {id} S R link bytes i place end old new z read there greedy none x y customs h =
    let left = left_behind S R link bytes i place old new read x y customs h in
    let q = left.1 in
    let p = stands S bytes place end z there in
    elim (link.section.begins z p.front p.spelled) [
      | inl missing ↦
          let here : drop place bytes ≡ drop end bytes = p.whole ∙ ap (λ t. t ++ drop end bytes) missing in
          elim (link.section.begins x q.front q.first) [
            | inl empty ↦ none y left.0 (subst (R y left.0) (sym (ap (λ t. t ++ q.rest) empty) ∙ sym q.whole ∙ here) q.second)
            | inr begun ↦
                let further = greedy (at_begins bytes place id (begins_all id q.front q.rest (drop place bytes) q.whole begun)) in
                let inside = p.inside in
                omega (arith, length-drop place bytes, length-drop end bytes, ap length here)
          ]
      | inr begun ↦
          elim (link.section.begins x q.front q.first) [
            | inl empty ↦ no_id id link.tail link.positive link.rising y left.0 q.rest q.second (begins_rest id q.front q.rest (drop place bytes) q.whole empty (begins_all id p.front (drop end bytes) (drop place bytes) p.whole begun))
            | inr other ↦
                let whole : q.front ++ q.rest ≡ p.front ++ drop end bytes = sym q.whole ∙ p.whole in
                let same = link.section.standing x z q.front p.front q.rest (drop end bytes) q.first p.spelled other begun whole in
                none y left.0 (subst (R y left.0) (rest_same q.front p.front q.rest (drop end bytes) same.0 whole) q.second)
          ]
    ]

-- custom sections, the section and what is behind it
pub chain_read : {A B : Type 0} (S : A → Spellings) (R : B → List CustomSection → Spellings) (bytes : List ℕ) (i place end : ℕ) (old new newer : List CustomSection) (x : A) (y : B) → CustomsRead bytes i place old new → IsAt S bytes place end x → TailRead R bytes end new newer y → TailRead (λ (t : A × B). S t.0 ▷ R t.1) bytes i old newer (x, y)
chain_read S R bytes i place end old new newer x y read there rest =
    let p = stands (each custom_section) bytes i place read.customs read.there in
    let q = stands S bytes place end x there in
    record {
      customs = read.customs ++ rest.customs;
      appended = rest.appended ∙ ap (λ t. t ++ rest.customs) read.appended ∙ append_assoc old read.customs rest.customs;
      spelled = record {
        before = read.customs;
        after = rest.customs;
        all = refl;
        spelled = record { front = p.front; rest = drop place bytes; whole = p.whole; first = p.spelled; second = record { front = q.front; rest = drop end bytes; whole = q.whole; first = q.spelled; second = rest.spelled } };
      };
    }

-- no custom sections at first
pub customs_none : (bytes : List ℕ) (i : ℕ) (old : List CustomSection) → i ≤ length bytes → CustomsPassed bytes i i old old
customs_none bytes i old inside = record {
  customs = [];
  appended = sym (append-nil old);
  there = is_at (each custom_section) bytes i i [] (record { forward = omega arith; inside = inside; front = []; whole = refl; spelled = refl });
}

-- one more
pub customs_more : (bytes : List ℕ) (i j k : ℕ) (old new : List CustomSection) (c : CustomSection) → CustomsPassed bytes i j old new → IsAt custom_section bytes j k c → CustomsPassed bytes i k old (new ++ c ∷ [])
customs_more bytes i j k old new c passed there = record {
  customs = passed.customs ++ c ∷ [];
  appended = ap (λ t. t ++ c ∷ []) passed.appended ∙ append_assoc old passed.customs (c ∷ []);
  there = each_more custom_section bytes i j k passed.customs c passed.there there;
}

-- why a custom section isn't read is why they aren't
pub customs_err : (bytes : List ℕ) (i j : ℕ) (old now new : List CustomSection) (r : Result ℕ CodeError) (e : CodeError) → IsErrAnd r (λ y. y ≡ e) → CustomsPassed bytes i j old now → slice_get bytes j ≡ Some 0 → Refuses custom_section bytes j e → ReadsCustoms bytes i old new r
customs_err bytes i j old now new r e gives passed first h = let p = err_from_is_err_and r gives in rw (p.1, p.2) (refused e h)
  where
    refused : (e : CodeError) → Refuses custom_section bytes j e → ReadsCustoms bytes i old new (Err e)
    refused Malformed none = record { customs = passed.customs; end = j; there = passed.there; zero = first; none = none }
    refused Memory none = tt

-- why custom sections aren't read is why sections among them aren't
pub tail_err_customs : {A : Type 0} {least : ℕ} (Q : A → List CustomSection → Spellings) → IsTail least Q → (bytes : List ℕ) (i : ℕ) (old now new : List CustomSection) (r : Result A CodeError) (e : CodeError) → IsErrAnd r (λ y. y ≡ e) → ReadsCustoms bytes i old now (Err e) → ReadsTail Q bytes i old new r
tail_err_customs Q tail bytes i old now new r e gives h = let p = err_from_is_err_and r gives in rw (p.1, p.2) (refused e h)
  where
    refused : (e : CodeError) → ReadsCustoms bytes i old now (Err e) → ReadsTail Q bytes i old new (Err e)
    refused Malformed malformed = none_custom Q tail bytes i malformed
    refused Memory none = tt

-- so is why the section isn't
pub tail_err_section : {A B : Type 0} {id least : ℕ} (S : A → Spellings) (R : B → List CustomSection → Spellings) → IsLink id least S R → (bytes : List ℕ) (i place : ℕ) (old now new : List CustomSection) (r : Result (A × B) CodeError) (e : CodeError) → IsErrAnd r (λ y. y ≡ e) → CustomsRead bytes i place old now → ReadsSection id S bytes place (Err e) → ReadsTail (λ (t : A × B). S t.0 ▷ R t.1) bytes i old new r
tail_err_section {A} {B} {id} S R link bytes i place old now new r e gives read h = let p = err_from_is_err_and r gives in rw (p.1, p.2) (refused e h)
  where
    refused : (e : CodeError) → ReadsSection id S bytes place (Err e) → ReadsTail (λ (t : A × B). S t.0 ▷ R t.1) bytes i old new (Err e)
    refused Malformed none = λ t customs spelled. none_section S R link bytes i place old now read none.0 none.1 t.0 t.1 customs spelled
    refused Memory none = tt

-- and why what is behind it isn't
pub tail_err_rest : {A B : Type 0} {id least : ℕ} (S : A → Spellings) (R : B → List CustomSection → Spellings) → IsLink id least S R → (bytes : List ℕ) (i place end : ℕ) (old now newer new : List CustomSection) (z : A) (r : Result (A × B) CodeError) (e : CodeError) → IsErrAnd r (λ y. y ≡ e) → CustomsRead bytes i place old now → ReadsSection id S bytes place (Ok (z, end)) → ReadsTail R bytes end now newer (Err e) → ReadsTail (λ (t : A × B). S t.0 ▷ R t.1) bytes i old new r
tail_err_rest {A} {B} {id} S R link bytes i place end old now newer new z r e gives read there h = let p = err_from_is_err_and r gives in rw (p.1, p.2) (refused e h)
  where
    refused : (e : CodeError) → ReadsTail R bytes end now newer (Err e) → ReadsTail (λ (t : A × B). S t.0 ▷ R t.1) bytes i old new (Err e)
    refused Malformed none = λ t customs spelled. none_behind_section S R link bytes i place end old now z read there.0 there.1 none t.0 t.1 customs spelled
    refused Memory none = tt

-- more bytes behind the last custom section
pub none_end : (bytes : List ℕ) (i end : ℕ) (old new : List CustomSection) → CustomsRead bytes i end old new → end < length bytes → (customs : List CustomSection) → each custom_section customs (drop i bytes) → ⊥
none_end bytes i end old new read more customs h =
    let p = stands (each custom_section) bytes i end read.customs read.there in
    let rest = behind_customs {Q = λ (x : Unit {0}). each custom_section} end_tail tt customs read.customs (drop i bytes) p.front (drop end bytes) h p.whole p.spelled in
    elim (customs_begin rest.0 (drop end bytes) rest.2) [
      | inl none ↦ omega (arith, length-drop end bytes, ap length none)
      | inr begun ↦ read.ended (at_begins bytes end 0 begun)
    ]
