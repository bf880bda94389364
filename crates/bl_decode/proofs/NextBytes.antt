-- What comes next at a place.
use Rattle.std.proofs.Common.{◌≡◌, ◌∙◌, ap, sym, subst, refl, ℕ, suc, ◌+◌, ◌-◌, ◌<◌, ◌≤◌, inl, inr, List, [], ◌∷◌, ◌++◌, length, append_assoc, append-nil, arith, length-append, length-drop, take, drop, drop-cons, slice_get, Some, None}
use Rattle.std.proofs.lemmas.List.{take-append-drop, drop_all}
use Rattle.bl_leb.specs.Grammar.{Spellings, exactly}
use Rattle.bl_wasm.specs.Values.{u32, byte_vec}
use Rattle.bl_wasm.specs.Sections.{code_entry, function_code}
use Rattle.bl_wasm.specs.declared.module.Code.{Code}
use Rattle.bl_code.specs.ReaderAnswers.{IsAt, NoneAt}
use Rattle.bl_code.proofs.Unique.{u32_same, byte_vec_prefix_free}
use Rattle.bl_code.proofs.Vectors.{each_none, each_more}
use Rattle.bl_code.proofs.Places.{Stands, stands, is_at, at_front, join}
use Rattle.bl_base.proofs.Lists.{rest_same, front_same}
use Rattle.bl_decode.specs.ModulePrefixes.{EarlyContents, BeginsCode, BeginsFrom, BeginsWith, AreBodies}
use Rattle.bl_decode.specs.ScanStates.{Passed, Inside, Entered, Closed, AtSections, AtEntries}
use Rattle.std.proofs.lemmas.Option.{get_or_from_slice_get, slice_get_cases, slice_get_within, none-some}
use Rattle.bl_leb.proofs.Unsigned.{not_empty}
use Rattle.bl_decode.proofs.Sizes.{id_at, bytes_sized}
use Rattle.bl_decode.proofs.ModulePrefixLemmas.{Shaped, behind_code, below_ten, empty_of}
use Rattle.bl_decode.proofs.SectionSteps.{passed_custom, passed_section, closed_section, FirstSection, by_first, none_empty}
use Rattle.bl_decode.proofs.CodeEntries.{entered_code, entered_entry, closed_entry}

-- the bytes up to a place, and those of what stands there
module _ {S : Spellings} (bytes : List ℕ) (i j : ℕ) (h : Stands S bytes i j) where
  pub took : take j bytes ≡ take i bytes ++ h.front
  took =
      let f = h.forward in
      let g = h.inside in
      let whole : take j bytes ++ drop j bytes ≡ (take i bytes ++ h.front) ++ drop j bytes
      = take-append-drop j bytes ∙ sym (take-append-drop i bytes) ∙ ap (λ t. take i bytes ++ t) h.whole ∙ sym (append_assoc (take i bytes) h.front (drop j bytes)) in
      let long : length (take j bytes) ≡ length (take i bytes ++ h.front)
      = omega (arith, ap length whole, length-append (take j bytes) (drop j bytes), length-append (take i bytes ++ h.front) (drop j bytes)) in
      front_same (take j bytes) (take i bytes ++ h.front) (drop j bytes) (drop j bytes) long whole

  pub spans : length h.front ≡ j - i
  spans = let f = h.forward in let g = h.inside in
      omega (arith, length-drop i bytes, length-drop j bytes, ap length h.whole, length-append h.front (drop j bytes))

-- ---- what waits

pub waits_sections : (bytes : List ℕ) (place least : ℕ) → Passed least (take place bytes) → ((bodies : List Code) → BeginsFrom least (drop place bytes) bodies → ⊥) → AreBodies bytes []
waits_sections bytes place least p none = record {
  there = inl refl;
  most = λ others b. absurd (none others (p.asked (drop place bytes) others (subst (λ t. BeginsWith t others) (sym (take-append-drop place bytes)) b)));
}

pub waits_entries : (bytes : List ℕ) (place room left : ℕ) (bodies : List Code) → Entered (take place bytes) bodies room left → ((others : List Code) → Inside room left (drop place bytes) others → others ≡ []) → AreBodies bytes bodies
waits_entries bytes place room left bodies p none = record {
  there = inr (subst (λ l. BeginsWith bytes l) (append-nil bodies) (subst (λ t. BeginsWith t (bodies ++ [])) (take-append-drop place bytes)
      (p.there (drop place bytes) [] (record { entries = []; rest = drop place bytes; whole = refl; few = omega arith; spelled = refl; fits = omega arith }))));
  most = λ others b.
      elim (p.asked (drop place bytes) others (subst (λ t. BeginsWith t others) (sym (take-append-drop place bytes)) b)) [
        | inl le ↦ le
        | inr more ↦ omega (arith, more.1, ap length (none more.0 more.2))
      ];
}

pub waits_closed : (bytes : List ℕ) (bodies : List Code) → Closed bytes bodies → AreBodies bytes bodies
waits_closed bytes bodies h = record {
  there = elim h.there [ inl e ↦ inl e | inr f ↦ inr (subst (λ t. BeginsWith t bodies) (append-nil bytes) (f [])) ];
  most = λ others b. h.most [] others (subst (λ t. BeginsWith t others) (sym (append-nil bytes)) b);
}

-- ---- what stands there

pub behind_first : (bytes : List ℕ) (place id : ℕ) → slice_get bytes place ≡ Some id → drop place bytes ≡ id ∷ drop (place + 1) bytes
behind_first bytes place id first =
    let within = slice_get_within bytes place id first in
    let after : suc place ≡ place + 1 = omega arith in
    drop-cons bytes place id within ∙ ap (λ b. b ∷ drop (suc place) bytes) (get_or_from_slice_get bytes place id id first) ∙ ap (λ n. id ∷ drop n bytes) after

past : (bytes : List ℕ) (i : ℕ) → slice_get bytes i ≡ None → length bytes ≤ i
past bytes i none = elim (slice_get_cases bytes i).1 [
  | inl found ↦ absurd (none-some found.0 (sym none ∙ found.2))
  | inr h ↦ h.0
]

tail_of : (m n : ℕ) (t u : List ℕ) → m ∷ t ≡ n ∷ u → t ≡ u
tail_of m n t u e = cc

-- what stands there, by what bytes begin with
here : {A : Type 0} (B : A → Spellings) (bytes : List ℕ) (i : ℕ) (x : A) (front rest : List ℕ) → i ≤ length bytes → B x front → drop i bytes ≡ front ++ rest → IsAt B bytes i (i + length front) x
here B bytes i x front rest inside h e = is_at B bytes i (i + length front) x (at_front bytes i front rest inside h e)

module _ (bytes : List ℕ) (place least : ℕ) (h : AtSections bytes [] place least) where
  pub waits_none : (slice_get bytes place ≡ None) → AreBodies bytes []
  waits_none none = waits_sections bytes place least h.passed (λ bodies b. none_empty least (drop place bytes) bodies (drop_all place bytes (past bytes place none)) b)

  module _ (id : ℕ) (first : slice_get bytes place ≡ Some id) (other : id ≡ 10 → ⊥) where
    waits_first : (FirstSection least id (drop place bytes) → ⊥) → AreBodies bytes []
    waits_first none = waits_sections bytes place least h.passed (λ bodies b.
        elim (by_first least id (drop place bytes) (drop (place + 1) bytes) bodies (behind_first bytes place id first) b) [
          | inl ten ↦ other ten.0
          | inr found ↦ none found
        ])

    pub waits_above : 9 < id → AreBodies bytes []
    waits_above above = waits_first (λ s. let below = below_ten id s.contents s.early in omega arith)

    pub waits_falling : (id ≡ 0 → ⊥) → id < least → AreBodies bytes []
    waits_falling some low = waits_first (λ s. elim s.rising [ inl zero_id ↦ some zero_id | inr le ↦ omega arith ])

    pub waits_size : NoneAt byte_vec bytes (place + 1) → AreBodies bytes []
    waits_size none = waits_first (λ s.
        let all : drop place bytes ≡ id ∷ (s.shaped.rest ++ s.rest) = s.whole ∙ ap (λ t. t ++ s.rest) (s.shaped.whole ∙ ap (λ t. t ++ s.shaped.rest) s.shaped.first) in
        let behind = tail_of id id (drop (place + 1) bytes) (s.shaped.rest ++ s.rest) (sym (behind_first bytes place id first) ∙ all) in
        let within = slice_get_within bytes place id first in
        none s.contents (place + 1 + length s.shaped.rest) (here byte_vec bytes (place + 1) s.contents s.shaped.rest s.rest (omega arith) s.shaped.second behind))

    module _ (end : ℕ) (contents : List ℕ) (there : IsAt byte_vec bytes (place + 1) end contents) where
      whole : Stands (Shaped id contents) bytes place end
      whole = join bytes place (place + 1) end (id_at bytes place id first) (stands byte_vec bytes (place + 1) end contents there)

      further : place < end
      further = let f = there.forward in omega arith

      pub over_section : (EarlyContents id contents → ⊥) → Closed bytes []
      over_section none =
          let w = whole in
          subst (λ t. Closed t []) (ap (λ t. take place bytes ++ t) (sym w.whole) ∙ take-append-drop place bytes)
          (closed_section least id contents w.front (take place bytes) h.passed w.spelled other none (drop end bytes))

      pub at_custom : id ≡ 0 → EarlyContents id contents → AtSections bytes [] end least
      at_custom zero_id early =
          let w = whole in
          record { inside = w.inside; none = refl; passed = subst (Passed least) (sym (took bytes place end w)) (passed_custom least id contents w.front (take place bytes) h.passed w.spelled zero_id early) }

      pub at_section : (id ≡ 0 → ⊥) → least ≤ id → EarlyContents id contents → AtSections bytes [] end (id + 1)
      at_section some high early =
          let w = whole in
          record { inside = w.inside; none = refl; passed = subst (λ n. Passed n (take end bytes)) (omega arith) (subst (Passed (suc id)) (sym (took bytes place end w)) (passed_section least id contents w.front (take place bytes) h.passed w.spelled (omega (arith, some)) (omega (arith, high)) early)) }

      pub falls : length bytes - end + 1 < length bytes - place + 1
      falls = let f = further in let i = there.inside in omega arith

  module _ (first : slice_get bytes place ≡ Some 10) where
    waits_code : ((bodies : List Code) → BeginsCode (drop (place + 1) bytes) bodies → ⊥) → AreBodies bytes []
    waits_code none = waits_sections bytes place least h.passed (λ bodies b. none bodies (behind_code least (drop place bytes) (drop (place + 1) bytes) bodies (behind_first bytes place 10 first) b))

    inside_1 : place + 1 ≤ length bytes
    inside_1 = let within = slice_get_within bytes place 10 first in omega arith

    pub waits_code_size : NoneAt u32 bytes (place + 1) → AreBodies bytes []
    waits_code_size none = waits_code (λ bodies c. none c.room (place + 1 + length c.size) (here u32 bytes (place + 1) c.room c.size _ inside_1 c.sized c.whole))

    module _ (size after : ℕ) (sized_there : IsAt u32 bytes (place + 1) after size) where
      behind_size : (bodies : List Code) (c : BeginsCode (drop (place + 1) bytes) bodies) → (c.room ≡ size) × (drop after bytes ≡ c.count ++ (c.entries ++ c.rest))
      behind_size bodies c =
          let p = stands u32 bytes (place + 1) after size sized_there in
          let whole = sym c.whole ∙ p.whole in
          let same = (u32_same c.room size).both c.size p.front _ _ c.sized p.spelled whole in
          (same.1, sym (rest_same c.size p.front _ _ same.0 whole))

      pub waits_code_count : NoneAt u32 bytes after → AreBodies bytes []
      waits_code_count none = waits_code (λ bodies c.
          let b = behind_size bodies c in
          none c.promised (after + length c.count) (here u32 bytes after c.promised c.count _ sized_there.inside c.counted b.1))

      module _ (count start : ℕ) (counted_there : IsAt u32 bytes after start count) where
        pub waits_code_room : after + size < start → AreBodies bytes []
        waits_code_room short = waits_code (λ bodies c.
            let b = behind_size bodies c in
            let q = stands u32 bytes after start count counted_there in
            let same = (u32_same c.promised count).both c.count q.front _ _ c.counted q.spelled (sym b.1 ∙ q.whole) in
            let long = spans bytes after start q in
            let fits = c.inside in
            omega (arith, ap length same.0, b.0))

        pub at_entries : start ≤ after + size → AtEntries bytes [] place start (after + size) count
        at_entries long =
            let p = stands u32 bytes (place + 1) after size sized_there in
            let q = stands u32 bytes after start count counted_there in
            let split : drop place bytes ≡ (10 ∷ (p.front ++ q.front)) ++ drop start bytes
            = behind_first bytes place 10 first ∙ ap (λ t. 10 ∷ t) (p.whole ∙ ap (λ t. p.front ++ t) q.whole ∙ sym (append_assoc p.front q.front (drop start bytes))) in
            let w : Stands (exactly (10 ∷ (p.front ++ q.front))) bytes place start
            = record { forward = (let f = sized_there.forward in let g = counted_there.forward in omega arith); inside = q.inside; front = 10 ∷ (p.front ++ q.front); whole = split; spelled = refl } in
            let span = spans bytes after start q in
            let f = counted_there.forward in
            record {
              inside = q.inside;
              before = omega (arith, long);
              entered = subst (λ n. Entered (take start bytes) [] n count) (omega (arith, long))
                  (subst (λ t. Entered t [] (size - length q.front) count) (sym (took bytes place start w))
                  (entered_code least size count p.front q.front (take place bytes) h.passed p.spelled q.spelled (omega (arith, long))));
              begun = record {
                counts = after;
                first = start;
                before = omega arith;
                sized = subst (λ n. IsAt u32 bytes (place + 1) after n) (omega arith) sized_there;
                counted = subst (λ n. IsAt u32 bytes after start n) (omega arith) counted_there;
                entries = each_none code_entry bytes start q.inside;
              };
            }

        pub falls_code : length bytes - start + 1 < length bytes - place + 1
        falls_code = let f = sized_there.forward in let g = counted_there.forward in let i = counted_there.inside in omega arith

module _ (bytes : List ℕ) (bodies : List Code) (from place end left : ℕ) (h : AtEntries bytes bodies from place end left) where
  pub waits_no_entry : left ≡ 0 → AreBodies bytes bodies
  waits_no_entry none = waits_entries bytes place (end - place) left bodies h.entered (λ others i. let few = i.few in empty_of others (omega arith))

  waits_first_entry : ((body : Code) (others : List Code) → Inside (end - place) left (drop place bytes) (body ∷ others) → ⊥) → AreBodies bytes bodies
  waits_first_entry none = waits_entries bytes place (end - place) left bodies h.entered none_of
    where
      none_of : (others : List Code) → Inside (end - place) left (drop place bytes) others → others ≡ []
      none_of [] i = refl
      none_of (c ∷ more) i = absurd (none c more i)

  -- the first of the entries by its contents
  first_entry : (body : Code) (others : List Code) (i : Inside (end - place) left (drop place bytes) (body ∷ others)) → (contents : List ℕ) × (part : List ℕ) × (rest : List ℕ) × byte_vec contents part × (drop place bytes ≡ part ++ rest) × (length part ≤ end - place)
  first_entry body others i =
      let s = i.spelled in
      let z = s.first in
      let fit = i.fits in (
        z.contents,
        s.front,
        s.rest ++ i.rest,
        record { front = z.size; rest = z.contents; whole = z.whole; first = z.counted; second = refl },
        i.whole ∙ ap (λ t. t ++ i.rest) s.whole ∙ append_assoc s.front s.rest i.rest,
        omega (arith, ap length s.whole, length-append s.front s.rest),
      )

  pub waits_entry_size : NoneAt byte_vec bytes place → AreBodies bytes bodies
  waits_entry_size none = waits_first_entry (λ body others i.
      let f = first_entry body others i in
      none f.0 (place + length f.1) (here byte_vec bytes place f.0 f.1 f.2 h.inside f.3 f.4))

  module _ (after : ℕ) (contents : List ℕ) (there : IsAt byte_vec bytes place after contents) where
    pub waits_entry_room : end < after → AreBodies bytes bodies
    waits_entry_room short = waits_first_entry (λ body others i.
        let f = first_entry body others i in
        let p = stands byte_vec bytes place after contents there in
        let same = (byte_vec_prefix_free.same f.0 contents).both f.1 p.front f.2 _ f.3 p.spelled (sym f.4 ∙ p.whole) in
        let long = spans bytes place after p in
        let fit = f.5 in
        let before = h.before in
        omega (arith, ap length same.0))

    pub over_entry : ((body : Code) → function_code body contents → ⊥) → Closed bytes bodies
    over_entry none =
        let p = stands byte_vec bytes place after contents there in
        subst (λ t. Closed t bodies) (ap (λ t. take place bytes ++ t) (sym p.whole) ∙ take-append-drop place bytes)
        (closed_entry (end - place) left (take place bytes) bodies h.entered contents p.front (drop after bytes) p.spelled none)

    pub at_next : (body : Code) → (left ≡ 0 → ⊥) → after ≤ end → function_code body contents → AtEntries bytes (bodies ++ body ∷ []) from after end (left - 1)
    at_next body some fits spelled =
        let p = stands byte_vec bytes place after contents there in
        let q = bytes_sized (function_code body) bytes contents place after p spelled in
        let long = spans bytes place after q in
        let f = there.forward in
        record {
          inside = there.inside;
          before = omega (arith, fits);
          entered = subst (λ n. Entered (take after bytes) (bodies ++ body ∷ []) n (left - 1)) (omega (arith, fits))
              (subst (λ t. Entered t (bodies ++ body ∷ []) (end - place - length q.front) (left - 1)) (sym (took bytes place after q))
              (entered_entry (end - place) left (take place bytes) bodies h.entered body q.front (omega (arith, some)) (omega (arith, fits)) q.spelled));
          begun = record {
            counts = h.begun.counts;
            first = h.begun.first;
            before = h.begun.before;
            sized = h.begun.sized;
            counted = subst (λ n. IsAt u32 bytes h.begun.counts h.begun.first n) (omega (arith, some, length-append bodies (body ∷ []))) h.begun.counted;
            entries = each_more code_entry bytes h.begun.first place after bodies body h.begun.entries (is_at code_entry bytes place after body q);
          };
        }

    pub falls_entry : length bytes - after + 1 < length bytes - place + 1
    falls_entry =
        let f = there.forward in
        let i = there.inside in
        let p = stands byte_vec bytes place after contents there in
        let some = not_empty 32 p.spelled.front (length contents) p.spelled.first in
        let long = spans bytes place after p in
        omega (arith, ap length p.spelled.whole, length-append p.spelled.front p.spelled.rest)
