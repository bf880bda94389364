-- What comes before a position.
use Rattle.std.proofs.Common.{◌≡◌, ◌⊎◌, ◌↔◌, inl, inr, ℕ, suc, ◌+◌, ◌-◌, ◌<◌, ◌≤◌, [], ◌∷◌, length, Some, None, slice_get, Bool, true, false, IsTrue, Result, Ok, Err, IfOk, refl, sym, ap, ◌∙◌, subst, arith}
use Rattle.std.proofs.lemmas.Bool.{false≢true}
use Rattle.std.proofs.lemmas.Option.{none-some, same_Some, slice_get_within}
use Rattle.bl_program.specs.Layout.{entry_of, command_at, Holds}
use Rattle.bl_program.specs.Programs.{IsProgram}
use Rattle.bl_program.specs.Rules.{GoesTo, IsWellFormed}
use Rattle.bl_program.specs.declared.command.Command.{Command}
use Rattle.bl_program.specs.declared.definitions.ProgramParts.{ProgramParts as Program}
use Rattle.bl_definite.specs.Facts.{Follows, IsKnownAtEntry, Lacks, begins, lost, goes_on, Loses, Makes}
use Rattle.bl_definite.specs.Search.{Came, Entered, Extends, IsHandled, Seen, Traced}
use Rattle.bl_definite.specs.Tables.{AreEntrants, IsAmong, here, later}
use Rattle.bl_definite.specs.declared.facts.Fact.{Fact}
use Rattle.bl_definite.specs.declared.search.Search.{Search}
use Rattle.bl_definite.specs.declared.tables.Link.{Link}
use Rattle.bl_definite.specs.declared.tables.Entrants.{Entrants}
use Rattle.bl_definite.proofs.Steps.{grows_none, grows_both, grows_seen, handled_stays, seen_itself}
use Rattle.bl_definite.proofs.Ways.{comes_within, entry_is}

pub refuted : (b : Bool) (P : Type 0) → b ≡ false → IsTrue b ↔ P → P → ⊥
refuted b P e is p = false≢true (sym e ∙ is.1 p)

-- what holds of a value holds of it in other words
pub ok_alike : {A E : Type 0} (r : Result A E) (P Q : A → Type 0) → ((x : A) → P x → Q x) → IfOk r P → IfOk r Q
ok_alike (Ok x) P Q f h = f x h
ok_alike (Err e) P Q f h = h

module _ (program : Program) (function : ℕ) (fact : Fact) (position : ℕ) where
  -- ---- one command

  -- it doesn't go there, or it makes the fact
  pub came_not : (from : ℕ) (search : Search)
      → ((any : Command) → command_at program from ≡ Some any → Follows any from position → IsHandled fact any from search) → Came program function fact from position false search search
  came_not from search handled = record { lacks = λ e. absurd (false≢true e); extends = λ _. grows_none program function fact position search; handled = λ _. handled }

  pub came_nowhere : (from : ℕ) (search : Search) → command_at program from ≡ None → Came program function fact from position false search search
  came_nowhere from search none = came_not from search (λ any stands follows. absurd (none-some any (sym none ∙ stands)))

  module _ (from : ℕ) (it : Command) (stands : command_at program from ≡ Some it) where
    same_it : (any : Command) → command_at program from ≡ Some any → it ≡ any
    same_it any at = same_Some it any (sym stands ∙ at)

    pub came_apart : (search : Search) → (Follows it from position → ⊥) → Came program function fact from position false search search
    came_apart search not_it = came_not from search (λ any at follows. absurd (not_it (subst (λ c. Follows c from position) (sym (same_it any at)) follows)))

    pub came_made : (search : Search) → Makes it fact → Came program function fact from position false search search
    came_made search makes = came_not from search (λ any at follows. inl (subst (λ c. Makes c fact) (same_it any at) makes))

    pub came_lost : (search : Search) → Follows it from position → Loses it fact → Came program function fact from position true search search
    came_lost search follows loses = record {
      lacks = λ _. lost from position it stands follows loses;
      extends = λ e. absurd (false≢true (sym e));
      handled = λ e. absurd (false≢true (sym e));
    }

    pub came_seen : (old new : Search) → IsProgram program → IsWellFormed program → Holds program function position → length old.stamps.items ≡ length program.commands
        → Follows it from position → (Makes it fact → ⊥) → (Loses it fact → ⊥) → Seen fact from old new → Came program function fact from position false old new
    came_seen old new facts rules holds room follows unmade kept seen =
        let within : from < length old.stamps.items = let low = slice_get_within program.commands from it stands in omega arith in
        record {
          lacks = λ e. absurd (false≢true e);
          extends = λ _. grows_seen program function fact position from old new within (comes_within program facts rules function from position it holds stands follows) (λ lacks. goes_on from position it stands follows unmade lacks) seen;
          handled = λ _ any at _. subst (λ c. IsHandled fact c from new) (same_it any at) (inr (kept, seen_itself fact from old new within seen));
        }

  -- ---- the commands that name the position

  -- those of the links from a number on are left
  pub record Entering (entrants : Entrants) (number : ℕ) (old new : Search) : Type 0 where
    pub extends : Extends program function fact position old new
    pub small : number ≤ length entrants.links.items
    pub handled : (from : ℕ) (any : Command) → command_at program from ≡ Some any → GoesTo any position → IsHandled fact any from new ⊎ IsAmong entrants.links.items from number

  pub entering_begins : (entrants : Entrants) (number : ℕ) (search : Search) → AreEntrants program.commands entrants → slice_get entrants.heads.items position ≡ Some number → Entering entrants number search search
  entering_begins entrants number search are at = record {
    extends = grows_none program function fact position search;
    small = are.linked.heads position number at;
    handled = λ from any stands goes. inr (are.noted from position any stands goes number at);
  }

  pub entering_goes_on : (entrants : Entrants) (number : ℕ) (link : Link) (old mid new : Search) → AreEntrants program.commands entrants → 0 < number → slice_get entrants.links.items (number - 1) ≡ Some link
      → Came program function fact link.from position false mid new → Entering entrants number old mid → Entering entrants link.next old new
  entering_goes_on entrants number link old mid new are some at came was = record {
    extends = grows_both program function fact position old mid new was.extends (came.extends refl);
    small = let le = are.linked.fall (number - 1) link at in let small = was.small in omega arith;
    handled = λ from any stands goes. elim (was.handled from any stands goes) as (λ _. IsHandled fact any from new ⊎ IsAmong entrants.links.items from link.next) [
      | inl done ↦ inl (handled_stays program function fact position from any mid new (came.extends refl) done)
      | inr among ↦ by from any stands goes number among (omega arith)
    ];
  }
    where
      by : (from : ℕ) (any : Command) → command_at program from ≡ Some any → GoesTo any position → (count : ℕ) → IsAmong entrants.links.items from count → count ≡ suc (number - 1)
          → IsHandled fact any from new ⊎ IsAmong entrants.links.items from link.next
      by from any stands goes _ (here place other found from_is) e =
          let place_is : place ≡ number - 1 = omega (arith, e) in
          let same : other ≡ link = same_Some other link (sym found ∙ ap (slice_get entrants.links.items) place_is ∙ at) in
          let it_is : link.from ≡ from = subst (λ (k : Link). k.from ≡ from) same from_is in
          inl (subst (λ (k : ℕ). IsHandled fact any k new) it_is
          (came.handled refl any (subst (λ (k : ℕ). command_at program k ≡ Some any) (sym it_is) stands) (inl goes)))
      by from any stands goes _ (later place other found rest) e =
          let place_is : place ≡ number - 1 = omega (arith, e) in
          let same : other ≡ link = same_Some other link (sym found ∙ ap (slice_get entrants.links.items) place_is ∙ at) in
          inr (subst (λ (k : Link). IsAmong entrants.links.items from k.next) same rest)

  pub entering_ends : (entrants : Entrants) (number : ℕ) (old new : Search) → number ≤ 0 → Entering entrants number old new → Entered program function fact position false old new
  entering_ends entrants number old new none was = record {
    lacks = λ e. absurd (false≢true e);
    extends = λ _. was.extends;
    handled = λ _ from any stands goes. elim (was.handled from any stands goes) as (λ _. IsHandled fact any from new) [
      | inl done ↦ done
      | inr among ↦ absurd (by from number among none)
    ];
  }
    where
      by : (from count : ℕ) → IsAmong entrants.links.items from count → count ≤ 0 → ⊥
      by from _ (here place other found from_is) le = omega (arith, le)
      by from _ (later place other found rest) le = omega (arith, le)

  pub entering_finds : (from : ℕ) (old mid new : Search) → Came program function fact from position true mid new → Entered program function fact position true old new
  entering_finds from old mid new came = record {
    lacks = λ _. came.lacks refl;
    extends = λ e. absurd (false≢true (sym e));
    handled = λ e. absurd (false≢true (sym e));
  }

  -- ---- everything before the position

  pub traced_lacks : (old new : Search) → Lacks program fact position → Traced program function fact position true old new
  traced_lacks old new lacks = record {
    lacks = λ _. lacks;
    extends = λ e. absurd (false≢true (sym e));
    closed = λ e. absurd (false≢true (sym e));
  }

  pub traced_begun : (search : Search) → function < length program.functions → position ≡ entry_of program function → (IsKnownAtEntry program function fact → ⊥) → Traced program function fact position true search search
  traced_begun search exists at unknown = traced_lacks search search (begins function position exists at unknown)

  pub traced_is : (answer : Bool) (old mid new : Search) → IsProgram program → IsWellFormed program → Holds program function position
      → (position ≡ entry_of program function → IsKnownAtEntry program function fact)
      → Came program function fact (position - 1) position false old mid → Entered program function fact position answer mid new
      → Traced program function fact position answer old new
  traced_is answer old mid new facts rules holds known came entered = record {
    lacks = entered.lacks;
    extends = λ e. grows_both program function fact position old mid new (came.extends refl) (entered.extends e);
    closed = λ e. record {
      known = λ other exists at.
          let same = entry_is program facts rules function other position holds exists at in
          subst (λ (f : ℕ). IsKnownAtEntry program f fact) (sym same) (known (subst (λ (f : ℕ). position ≡ entry_of program f) same at));
      handled = λ from any stands follows. elim follows as (λ _. IsHandled fact any from new) [
        | inl goes ↦ entered.handled e from any stands goes
        | inr next ↦
            let before : position - 1 ≡ from = omega (arith, next.0) in
            subst (λ (k : ℕ). IsHandled fact any k new) before
            (handled_stays program function fact position (position - 1) any mid new (entered.extends e)
            (came.handled refl any (subst (λ (k : ℕ). command_at program k ≡ Some any) (sym before) stands)
            (subst (λ (k : ℕ). Follows any k position) (sym before) (inr next))))
      ];
    };
  }
