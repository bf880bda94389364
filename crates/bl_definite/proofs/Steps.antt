-- The search, step by step.
use Rattle.std.proofs.Common.{◌≡◌, ◌⊎◌, inl, inr, ℕ, zero, suc, ◌+◌, ◌-◌, ◌*◌, ◌<◌, ◌≤◌, ◌&&◌, nat_eq, List, [], ◌∷◌, ◌++◌, length, set, Option, Some, None, slice_get, Bool, true, false, refl, sym, ap, ◌∙◌, subst, arith}
use Rattle.std.specs.Prelude.{if◌then◌else◌}
use Rattle.std.proofs.lemmas.Bool.{cases_lt, false≢true, eqb-true, eq-eqb}
use Rattle.std.proofs.lemmas.List.{length-replicate}
use Rattle.std.proofs.lemmas.Option.{none-some, same_Some}
use Rattle.bl_base.proofs.Lists.{pushed_get}
use Rattle.bl_program.specs.Layout.{Holds}
use Rattle.bl_program.specs.declared.command.Command.{Command}
use Rattle.bl_program.specs.declared.definitions.ProgramParts.{ProgramParts as Program}
use Rattle.bl_definite.specs.Facts.{Lacks, begins, lost, goes_on}
use Rattle.bl_definite.specs.Search.{Answers, Extends, IsClean, IsClosed, IsHandled, IsSeen, Seen, before, now, Traced, Waits, is_same, is_seen, kind_of, number_of, index_of, unseen, work}
use Rattle.bl_definite.specs.declared.facts.Fact.{Fact}
use Rattle.bl_definite.specs.declared.facts.Fact.TheVariants.{Own, Argument, Returned, Given}
use Rattle.bl_definite.specs.declared.search.Search.{Search}
use Rattle.bl_definite.proofs.ListLemmas.{set_length, set_at, set_cases, set_other, kept, at_end, length_end, nothing_in}
use Rattle.bl_definite.proofs.Ways.{makes_keeps}

-- ---- facts that are the same

all_three : (a b c : Bool) → (a && b && c) ≡ true → (a ≡ true) × (b ≡ true) × (c ≡ true)
all_three true true true e = (refl, refl, refl)
all_three true true false e = absurd (false≢true e)
all_three true false c e = absurd (false≢true e)
all_three false b c e = absurd (false≢true e)

are_true : (a b c : Bool) → a ≡ true → b ≡ true → c ≡ true → (a && b && c) ≡ true
are_true true true true d e f = refl
are_true true true false d e f = absurd (false≢true f)
are_true true false c d e f = absurd (false≢true e)
are_true false b c d e f = absurd (false≢true d)

same_parts : (one other : Fact) → kind_of one ≡ kind_of other → number_of one ≡ number_of other → index_of one ≡ index_of other → one ≡ other
same_parts (Own x) (Own y) a b c = ap Own b
same_parts (Own x) (Argument function index) a b c = absurd (omega (arith, a))
same_parts (Own x) (Returned function) a b c = absurd (omega (arith, a))
same_parts (Own x) (Given index) a b c = absurd (omega (arith, a))
same_parts (Argument f i) (Own y) a b c = absurd (omega (arith, a))
same_parts (Argument f i) (Argument g j) a b c = subst (λ (k : ℕ). Argument f i ≡ Argument k j) b (ap (Argument f) c)
same_parts (Argument f i) (Returned function) a b c = absurd (omega (arith, a))
same_parts (Argument f i) (Given index) a b c = absurd (omega (arith, a))
same_parts (Returned f) (Own y) a b c = absurd (omega (arith, a))
same_parts (Returned f) (Argument g j) a b c = absurd (omega (arith, a))
same_parts (Returned f) (Returned g) a b c = ap Returned b
same_parts (Returned f) (Given index) a b c = absurd (omega (arith, a))
same_parts (Given i) (Own y) a b c = absurd (omega (arith, a))
same_parts (Given i) (Argument g j) a b c = absurd (omega (arith, a))
same_parts (Given i) (Returned g) a b c = absurd (omega (arith, a))
same_parts (Given i) (Given j) a b c = ap Given b

same_is : (one other : Fact) → is_same one other ≡ true → one ≡ other
same_is one other e =
    let parts = all_three (nat_eq (kind_of one) (kind_of other)) (nat_eq (number_of one) (number_of other)) (nat_eq (index_of one) (index_of other)) e in
    same_parts one other (eqb-true (kind_of one) (kind_of other) parts.0) (eqb-true (number_of one) (number_of other) parts.1) (eqb-true (index_of one) (index_of other) parts.2)

is_itself : (one : Fact) → is_same one one ≡ true
is_itself one = are_true (nat_eq (kind_of one) (kind_of one)) (nat_eq (number_of one) (number_of one)) (nat_eq (index_of one) (index_of one))
    (eq-eqb (kind_of one) (kind_of one) refl) (eq-eqb (number_of one) (number_of one) refl) (eq-eqb (index_of one) (index_of one) refl)

seen_is : (fact : Fact) (stamp : Option Fact) (b : Bool) → is_seen fact stamp ≡ b → (stamp ≡ Some fact → ⊥) → b ≡ false
seen_is fact stamp false e apart = refl
seen_is fact None true e apart = absurd (false≢true e)
seen_is fact (Some other) true e apart = absurd (apart (ap Some (sym (same_is fact other e))))

-- ---- how much there is to look at

counted : (b : Bool) (n : ℕ) → b ≡ false → (if b then 0 else 1) + n ≡ suc n
counted true n e = absurd (false≢true (sym e))
counted false n e = omega arith

uncounted : (b : Bool) (n : ℕ) → b ≡ true → (if b then 0 else 1) + n ≡ n
uncounted true n e = omega arith
uncounted false n e = absurd (false≢true e)

-- one position fewer that wasn't seen
pub unseen_less : (fact : Fact) (stamps : List (Option Fact)) (i : ℕ) → i < length stamps → (slice_get stamps i ≡ Some (Some fact) → ⊥) → suc (unseen fact (set stamps i (Some fact))) ≡ unseen fact stamps
unseen_less fact [] i lt apart = absurd (omega arith)
unseen_less fact (stamp ∷ stamps) zero lt apart =
    let here = uncounted (is_same fact fact) (unseen fact stamps) (is_itself fact) in
    let there = counted (is_seen fact stamp) (unseen fact stamps) (seen_is fact stamp (is_seen fact stamp) refl (λ e. apart (ap Some e))) in
    ap suc here ∙ sym there
unseen_less fact (stamp ∷ stamps) (suc i) lt apart =
    let rest = unseen_less fact stamps i (omega arith) apart in
    by (if is_seen fact stamp then 0 else 1) (unseen fact (set stamps i (Some fact))) (unseen fact stamps) rest
  where
    by : (a m n : ℕ) → suc m ≡ n → suc (a + m) ≡ a + n
    by a m n e = omega arith

-- ---- what is new in the search

module _ (program : Program) (function : ℕ) (fact : Fact) (position : ℕ) where
  abbrev Grows : Search → Search → Type 0
  Grows old new = Extends program function fact position old new

  pub grows_none : (old : Search) → Grows old old
  grows_none old = record {
    room = refl;
    keeps = λ other seen. seen;
    fresh = λ other seen. inl seen;
    others = λ other any seen. inr seen;
    waits = λ other waits. waits;
    leads = λ other waits. inl waits;
    work = omega arith;
  }

  pub grows_both : (old mid new : Search) → Grows old mid → Grows mid new → Grows old new
  grows_both old mid new one other = record {
    room = other.room ∙ one.room;
    keeps = λ place seen. other.keeps place (one.keeps place seen);
    fresh = λ place seen. elim (other.fresh place seen) as (λ _. IsSeen old fact place ⊎ Waits new place) [
      | inl was ↦ elim (one.fresh place was) as (λ _. IsSeen old fact place ⊎ Waits new place) [ inl first ↦ inl first | inr waits ↦ inr (other.waits place waits) ]
      | inr waits ↦ inr waits
    ];
    others = λ place any seen. elim (other.others place any seen) as (λ _. (any ≡ fact) ⊎ IsSeen old any place) [ inl same ↦ inl same | inr was ↦ one.others place any was ];
    waits = λ place waits. other.waits place (one.waits place waits);
    leads = λ place waits. elim (other.leads place waits) as (λ _. Waits old place ⊎ (Holds program function place × (Lacks program fact place → Lacks program fact position))) [
      | inl was ↦ one.leads place was
      | inr new_one ↦ inr new_one
    ];
    work = let a = one.work in let b = other.work in omega arith;
  }

  -- one position is seen from which control comes
  pub grows_seen : (from : ℕ) (old new : Search) → from < length old.stamps.items → Holds program function from → (Lacks program fact from → Lacks program fact position) → Seen fact from old new → Grows old new
  grows_seen from old new within holds leads (before was same) = subst (Grows old) (sym same) (grows_none old)
  grows_seen from old new within holds leads (now unseen_here stamps waiting) = record {
    room = ap (length {A = Option Fact}) stamps ∙ set_length old.stamps.items from (Some fact);
    keeps = λ other seen. elim (cases_lt other from) as (λ _. IsSeen new fact other) [
      | inl less ↦ seen_there other (omega arith) seen
      | inr more ↦ elim (cases_lt from other) as (λ _. IsSeen new fact other) [
        | inl less ↦ seen_there other (omega arith) seen
        | inr also ↦ absurd (let same : other ≡ from = omega arith in unseen_here (subst (λ (k : ℕ). IsSeen old fact k) same seen))
      ]
    ];
    fresh = λ other seen. elim (stamp_cases other fact seen) as (λ _. IsSeen old fact other ⊎ Waits new other) [
      | inl same ↦ inr (subst (Waits new) (sym same.0) waits_here)
      | inr was ↦ inl was.1
    ];
    others = λ other any seen. elim (stamp_cases other any seen) as (λ _. (any ≡ fact) ⊎ IsSeen old any other) [
      | inl same ↦ inl (same_Some any fact same.1)
      | inr was ↦ inr was.1
    ];
    waits = λ other waits. (waits.0, subst (λ (l : List ℕ). slice_get l waits.0 ≡ Some other) (sym waiting) (kept old.waiting.items from waits.0 other waits.1));
    leads = λ other waits. elim (pushed_get old.waiting.items from waits.0 other (subst (λ (l : List ℕ). slice_get l waits.0 ≡ Some other) waiting waits.1)) as (λ _. Waits old other ⊎ (Holds program function other × (Lacks program fact other → Lacks program fact position))) [
      | inl was ↦ inl (waits.0, was)
      | inr end ↦ inr (subst (Holds program function) end.1 holds, λ lacks. leads (subst (Lacks program fact) (sym end.1) lacks))
    ];
    work =
        let less = unseen_less fact old.stamps.items from within unseen_here in
        let stamps_are = ap (unseen fact) stamps in
        let longer = ap (length {A = ℕ}) waiting ∙ length_end old.waiting.items from in
        omega arith;
  }
    where
      stamp_cases : (other : ℕ) (any : Fact) → IsSeen new any other → ((other ≡ from) × (Some any ≡ Some fact)) ⊎ ((other ≡ from → ⊥) × IsSeen old any other)
      stamp_cases other any seen = set_cases old.stamps.items from other (Some fact) (Some any) (subst (λ (l : List (Option Fact)). slice_get l other ≡ Some (Some any)) stamps seen)

      seen_there : (other : ℕ) → (other ≡ from → ⊥) → IsSeen old fact other → IsSeen new fact other
      seen_there other apart seen = subst (λ (l : List (Option Fact)). slice_get l other ≡ Some (Some fact)) (sym stamps) (set_other old.stamps.items from other (Some fact) (Some fact) apart seen)

      waits_here : Waits new from
      waits_here = (length old.waiting.items, subst (λ (l : List ℕ). slice_get l (length old.waiting.items) ≡ Some from) (sym waiting) (at_end old.waiting.items from))

-- a position that was looked at for the fact is seen
pub seen_itself : (fact : Fact) (position : ℕ) (old new : Search) → position < length old.stamps.items → Seen fact position old new → IsSeen new fact position
seen_itself fact position old new within (before was same) = subst (λ s. IsSeen s fact position) (sym same) was
seen_itself fact position old new within (now unseen_here stamps waiting) =
    subst (λ (l : List (Option Fact)). slice_get l position ≡ Some (Some fact)) (sym stamps) (set_at old.stamps.items position (Some fact) within)

-- what was handled stays handled
pub handled_stays : (program : Program) (function : ℕ) (fact : Fact) (position from : ℕ) (here : Command) (old new : Search) → Extends program function fact position old new → IsHandled fact here from old → IsHandled fact here from new
handled_stays program function fact position from here old new grows handled = elim handled as (λ _. IsHandled fact here from new) [
  | inl makes ↦ inl makes
  | inr stays ↦ inr (stays.0, grows.keeps from stays.1)
]

-- ---- the search for one fact

module _ (program : Program) (function : ℕ) (fact : Fact) where
  abbrev pub Status : Search → ℕ → Type 0
  Status search other = (Lacks program fact other → ⊥) ⊎ Waits search other ⊎ IsClosed program fact search other

  -- what holds between two positions that are looked at
  pub record Searching (position : ℕ) (search : Search) : Type 0 where
    pub room : length search.stamps.items ≡ length program.commands
    pub target : IsSeen search fact position
    pub waits : (other : ℕ) → Waits search other → Holds program function other × (Lacks program fact other → Lacks program fact position)
    pub status : (other : ℕ) → IsSeen search fact other → Status search other
    pub others : (other : ℕ) (any : Fact) → IsSeen search any other → (any ≡ fact) ⊎ (Lacks program any other → ⊥)

  pub searching_begins : (position : ℕ) (old new : Search) → Holds program function position → position < length program.commands → IsClean program old → Seen fact position old new → Searching position new
  searching_begins position old new holds within clean seen =
      let within_old : position < length old.stamps.items = let room = clean.room in omega arith in
      let grows = grows_seen program function fact position position old new within_old holds (λ lacks. lacks) seen in
      record {
        room = grows.room ∙ clean.room;
        target = seen_itself fact position old new within_old seen;
        waits = λ other waits. elim (grows.leads other waits) as (λ _. Holds program function other × (Lacks program fact other → Lacks program fact position)) [
          | inl was ↦ absurd (nothing_in was.0 old.waiting.items other clean.idle was.1)
          | inr is ↦ is
        ];
        status = λ other is. elim (grows.fresh other is) as (λ _. Status new other) [
          | inl was ↦ inl (clean.each other fact was)
          | inr waits ↦ inr (inl waits)
        ];
        others = λ other any is. elim (grows.others other any is) as (λ _. (any ≡ fact) ⊎ (Lacks program any other → ⊥)) [
          | inl same ↦ inl same
          | inr was ↦ inr (clean.each other any was)
        ];
      }

  -- the last position that waits is looked at
  pub searching_goes_on : (position next : ℕ) (old popped new : Search) → Searching position old → popped.stamps.items ≡ old.stamps.items → old.waiting.items ≡ popped.waiting.items ++ next ∷ [] → Traced program function fact next false popped new → Searching position new
  searching_goes_on position next old popped new was stamps waiting traced =
      let grows = traced.extends refl in
      let seen_before : (other : ℕ) (any : Fact) → IsSeen popped any other → IsSeen old any other = λ other any seen. subst (λ (l : List (Option Fact)). slice_get l other ≡ Some (Some any)) stamps seen in
      let seen_after : (other : ℕ) (any : Fact) → IsSeen old any other → IsSeen popped any other = λ other any seen. subst (λ (l : List (Option Fact)). slice_get l other ≡ Some (Some any)) (sym stamps) seen in
      let waited : (other : ℕ) → Waits popped other → Waits old other = λ other waits. (waits.0, subst (λ (l : List ℕ). slice_get l waits.0 ≡ Some other) (sym waiting) (kept popped.waiting.items next waits.0 other waits.1)) in
      let last : Waits old next = (length popped.waiting.items, subst (λ (l : List ℕ). slice_get l (length popped.waiting.items) ≡ Some next) (sym waiting) (at_end popped.waiting.items next)) in
      record {
        room = grows.room ∙ ap (length {A = Option Fact}) stamps ∙ was.room;
        target = grows.keeps position (seen_after position fact was.target);
        waits = λ other waits. elim (grows.leads other waits) as (λ _. Holds program function other × (Lacks program fact other → Lacks program fact position)) [
          | inl old_one ↦ was.waits other (waited other old_one)
          | inr is ↦ (is.0, λ lacks. (was.waits next last).1 (is.1 lacks))
        ];
        status = λ other is. elim (grows.fresh other is) as (λ _. Status new other) [
          | inl seen ↦ elim (was.status other (seen_before other fact seen)) as (λ _. Status new other) [
            | inl none ↦ inl none
            | inr rest ↦ elim rest as (λ _. Status new other) [
              | inl waits ↦ elim (pushed_get popped.waiting.items next waits.0 other (subst (λ (l : List ℕ). slice_get l waits.0 ≡ Some other) waiting waits.1)) as (λ _. Status new other) [
                | inl before_it ↦ inr (inl (grows.waits other (waits.0, before_it)))
                | inr end ↦ inr (inr (subst (IsClosed program fact new) end.1 (traced.closed refl)))
              ]
              | inr closed ↦ inr (inr (record {
                known = closed.known;
                handled = λ from here stands follows. elim (closed.handled from here stands follows) as (λ _. IsHandled fact here from new) [
                  | inl makes ↦ inl makes
                  | inr stays ↦ inr (stays.0, grows.keeps from (seen_after from fact stays.1))
                ];
              }))
            ]
          ]
          | inr waits ↦ inr (inl waits)
        ];
        others = λ other any is. elim (grows.others other any is) as (λ _. (any ≡ fact) ⊎ (Lacks program any other → ⊥)) [
          | inl same ↦ inl same
          | inr seen ↦ was.others other any (seen_before other any seen)
        ];
      }

  -- a position at which the fact is lacking: the one that was asked
  pub searching_finds : (position next : ℕ) (old popped new : Search) → Searching position old → old.waiting.items ≡ popped.waiting.items ++ next ∷ [] → Traced program function fact next true popped new → Lacks program fact position
  searching_finds position next old popped new was waiting traced =
      (was.waits next (length popped.waiting.items, subst (λ (l : List ℕ). slice_get l (length popped.waiting.items) ≡ Some next) (sym waiting) (at_end popped.waiting.items next))).1 (traced.lacks refl)

  -- nothing waits any more: the fact is lacking nowhere that was seen
  none_lacks : (search : Search) → search.waiting.items ≡ [] → ((other : ℕ) → IsSeen search fact other → Status search other) → (position : ℕ) → Lacks program fact position → IsSeen search fact position → ⊥
  none_lacks search idle status _ (begins other position exists same unknown) seen = elim (status position seen) as (λ _. ⊥) [
    | inl none ↦ none (begins other position exists same unknown)
    | inr rest ↦ elim rest as (λ _. ⊥) [
      | inl waits ↦ nothing_in waits.0 search.waiting.items position idle waits.1
      | inr closed ↦ unknown (closed.known other exists same)
    ]
  ]
  none_lacks search idle status _ (lost from position here stands follows loses) seen = elim (status position seen) as (λ _. ⊥) [
    | inl none ↦ none (lost from position here stands follows loses)
    | inr rest ↦ elim rest as (λ _. ⊥) [
      | inl waits ↦ nothing_in waits.0 search.waiting.items position idle waits.1
      | inr closed ↦ elim (closed.handled from here stands follows) as (λ _. ⊥) [
        | inl makes ↦ makes_keeps here fact makes loses
        | inr stays ↦ stays.0 loses
      ]
    ]
  ]
  none_lacks search idle status _ (goes_on from position here stands follows unmade lacks) seen = elim (status position seen) as (λ _. ⊥) [
    | inl none ↦ none (goes_on from position here stands follows unmade lacks)
    | inr rest ↦ elim rest as (λ _. ⊥) [
      | inl waits ↦ nothing_in waits.0 search.waiting.items position idle waits.1
      | inr closed ↦ elim (closed.handled from here stands follows) as (λ _. ⊥) [
        | inl makes ↦ unmade makes
        | inr stays ↦ none_lacks search idle status from lacks stays.1
      ]
    ]
  ]

  pub searching_ends : (position : ℕ) (search : Search) → Searching position search → search.waiting.items ≡ [] → Answers program (λ other. other ≡ fact) position false search
  searching_ends position search was idle = record {
    lacks = λ e. absurd (false≢true e);
    has = λ _ other same lacks. none_lacks search idle was.status position (subst (λ f. Lacks program f position) same lacks) was.target;
    clean = λ _. record {
      room = was.room;
      idle = idle;
      each = λ other any seen lacks. elim (was.others other any seen) as (λ _. ⊥) [
        | inl same ↦ none_lacks search idle was.status other (subst (λ f. Lacks program f other) same lacks) (subst (λ f. IsSeen search f other) same seen)
        | inr none ↦ none lacks
      ];
    };
  }

  -- the same, where the search was asked once more for a position that waits
  pub searching_done : (position : ℕ) (old popped : Search) → popped.stamps.items ≡ old.stamps.items → old.waiting.items ≡ [] → popped.waiting.items ≡ [] → Searching position old → Answers program (λ other. other ≡ fact) position false popped
  searching_done position old popped stamps idle empty was =
      let back : (other : ℕ) (any : Fact) → IsSeen popped any other → IsSeen old any other = λ other any seen. subst (λ (l : List (Option Fact)). slice_get l other ≡ Some (Some any)) stamps seen in
      let there : (other : ℕ) (any : Fact) → IsSeen old any other → IsSeen popped any other = λ other any seen. subst (λ (l : List (Option Fact)). slice_get l other ≡ Some (Some any)) (sym stamps) seen in
      searching_ends position popped (record {
        room = ap (length {A = Option Fact}) stamps ∙ was.room;
        target = there position fact was.target;
        waits = λ other waits. absurd (nothing_in waits.0 popped.waiting.items other empty waits.1);
        status = λ other seen. elim (was.status other (back other fact seen)) as (λ _. Status popped other) [
          | inl none ↦ inl none
          | inr rest ↦ elim rest as (λ _. Status popped other) [
            | inl waits ↦ absurd (nothing_in waits.0 old.waiting.items other idle waits.1)
            | inr closed ↦ inr (inr (record {
              known = closed.known;
              handled = λ from here stands follows. elim (closed.handled from here stands follows) as (λ _. IsHandled fact here from popped) [
                | inl makes ↦ inl makes
                | inr stays ↦ inr (stays.0, there from fact stays.1)
              ];
            }))
          ]
        ];
        others = λ other any seen. was.others other any (back other any seen);
      }) empty

  pub found_one : (position : ℕ) (search : Search) → Lacks program fact position → Answers program (λ other. other ≡ fact) position true search
  found_one position search lacks = record {
    lacks = λ _. (fact, refl, lacks);
    has = λ e. absurd (false≢true (sym e));
    clean = λ e. absurd (false≢true (sym e));
  }

  -- a position that waits is one of the function's
  pub searching_holds : (position next : ℕ) (old : Search) (rest : List ℕ) → Searching position old → old.waiting.items ≡ rest ++ next ∷ [] → Holds program function next
  searching_holds position next old rest was waiting =
      (was.waits next (length rest, subst (λ (l : List ℕ). slice_get l (length rest) ≡ Some next) (sym waiting) (at_end rest next))).0

-- there is less to look at
pub less_work : (fact : Fact) (next : ℕ) (old popped new : Search) → popped.stamps.items ≡ old.stamps.items → old.waiting.items ≡ popped.waiting.items ++ next ∷ [] → work fact new ≤ work fact popped → work fact new < work fact old
less_work fact next old popped new stamps waiting le =
    let same = ap (unseen fact) stamps in
    let longer = ap (length {A = ℕ}) waiting ∙ length_end popped.waiting.items next in
    omega arith
