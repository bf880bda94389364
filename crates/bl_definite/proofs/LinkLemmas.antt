-- Who goes to each position, noted link by link.
use Rattle.std.proofs.Common.{◌≡◌, ◌⊎◌, inl, inr, ℕ, suc, ◌+◌, ◌<◌, ◌≤◌, List, [], ◌∷◌, ◌++◌, length, set, replicate, Some, slice_get, refl, sym, ap, ◌∙◌, subst, arith}
use Rattle.std.proofs.lemmas.Bool.{cases_lt}
use Rattle.std.proofs.lemmas.List.{length-replicate}
use Rattle.std.proofs.lemmas.Option.{none-some, same_Some, slice_get_within}
use Rattle.bl_base.proofs.Lists.{pushed_get}
use Rattle.bl_base.specs.declared.number.Pos.{Pos}
use Rattle.bl_program.specs.Rules.{GoesTo}
use Rattle.bl_program.specs.declared.command.Command.{Command}
use Rattle.bl_program.specs.declared.command.Command.TheVariants.{Test, Jump}
use Rattle.bl_program.specs.declared.command.Operand.{Operand}
use Rattle.bl_definite.specs.Tables.{IsAmong, here, later, AreLinked, IsNoted, Noted, AreNoted, AreEntrants}
use Rattle.bl_definite.specs.declared.tables.Link.{Link}
use Rattle.bl_definite.specs.declared.tables.Entrants.{Entrants}
use Rattle.bl_definite.proofs.ListLemmas.{set_length, set_cases, kept, at_end, length_end, in_replicate, nothing_in}

-- what is noted stays noted with one link more
among_more : (links : List Link) (link : Link) (from number : ℕ) → IsAmong links from number → IsAmong (links ++ link ∷ []) from number
among_more links link from _ (here place l e same) = here place l (kept links link place l e) same
among_more links link from _ (later place l e rest) = later place l (kept links link place l e) (among_more links link from l.next rest)

module _ (from to next : ℕ) (link : Link) (old new : Entrants) (link_from : link.from ≡ from) (link_next : link.next ≡ next)
    (stood : slice_get old.heads.items to ≡ Some next) (heads : new.heads.items ≡ set old.heads.items to (length new.links.items)) (links : new.links.items ≡ old.links.items ++ link ∷ []) where
  longer : length new.links.items ≡ suc (length old.links.items)
  longer = ap (length {A = Link}) links ∙ length_end old.links.items link

  -- what stands at the head of a position
  head_cases : (place number : ℕ) → slice_get new.heads.items place ≡ Some number
      → ((place ≡ to) × (number ≡ length new.links.items)) ⊎ ((place ≡ to → ⊥) × (slice_get old.heads.items place ≡ Some number))
  head_cases place number e = set_cases old.heads.items to place (length new.links.items) number (subst (λ (l : List ℕ). slice_get l place ≡ Some number) heads e)

  more : (other number : ℕ) → IsAmong old.links.items other number → IsAmong new.links.items other number
  more other number among = subst (λ (l : List Link). IsAmong l other number) (sym links) (among_more old.links.items link other number among)

  last : slice_get new.links.items (length old.links.items) ≡ Some link
  last = subst (λ (l : List Link). slice_get l (length old.links.items) ≡ Some link) (sym links) (at_end old.links.items link)

  at_number : (other number : ℕ) → number ≡ length new.links.items → IsAmong new.links.items other (suc (length old.links.items)) → IsAmong new.links.items other number
  at_number other number e among = subst (λ (n : ℕ). IsAmong new.links.items other n) (sym (e ∙ longer)) among

  pub noted_one : Noted from to old new
  noted_one = record {
    len = ap (length {A = ℕ}) heads ∙ set_length old.heads.items to (length new.links.items);
    linked = λ was. record {
      heads = λ place number e. elim (head_cases place number e) as (λ _. number ≤ length new.links.items) [
        | inl same ↦ omega (arith, same.1)
        | inr other ↦ let le = was.heads place number other.1 in let long = longer in omega arith
      ];
      fall = λ place l e. elim (pushed_get old.links.items link place l (subst (λ (ls : List Link). slice_get ls place ≡ Some l) links e)) as (λ _. l.next ≤ place) [
        | inl before ↦ was.fall place l before
        | inr end ↦ let le = was.heads to next stood in let is : l.next ≡ next = ap (λ (k : Link). k.next) (sym end.1) ∙ link_next in omega (arith, end.0)
      ];
    };
    noted = λ was number e. elim (head_cases to number e) as (λ _. IsAmong new.links.items from number) [
      | inl same ↦ at_number from number same.1 (here (length old.links.items) link last link_from)
      | inr other ↦ absurd (other.0 refl)
    ];
    stays = λ was other place noted number e. elim (head_cases place number e) as (λ _. IsAmong new.links.items other number) [
      | inl same ↦
          let among : IsAmong old.links.items other next = noted next (subst (λ (k : ℕ). slice_get old.heads.items k ≡ Some next) (sym same.0) stood) in
          at_number other number same.1 (later (length old.links.items) link last (subst (λ (n : ℕ). IsAmong new.links.items other n) (sym link_next) (more other next among)))
      | inr apart ↦ more other number (noted number apart.1)
    ];
  }

-- a position that doesn't exist
pub noted_past : (from to : ℕ) (old new : Entrants) → new ≡ old → length old.heads.items ≤ to → Noted from to old new
noted_past from to old new same past = subst (Noted from to old) (sym same) (record {
  len = refl;
  linked = λ was. was;
  noted = λ was number e. absurd (let within = slice_get_within old.heads.items to number e in omega arith);
  stays = λ was other place noted. noted;
})

-- a Test names two positions
pub noted_both : (command : Command) (cond : Operand) (first second : Pos) (from : ℕ) (old mid new : Entrants) → command ≡ Test cond first second → Noted from first.0 old mid → Noted from second.0 mid new → AreNoted command from old new
noted_both command cond first second from old mid new is one other = record {
  len = other.len ∙ one.len;
  linked = λ was. other.linked (one.linked was);
  noted = λ was to goes. elim (subst (λ c. GoesTo c to) is goes) as (λ _. IsNoted new from to) [
    | inl e ↦ subst (IsNoted new from) e (other.stays (one.linked was) from first.0 (one.noted was))
    | inr e ↦ subst (IsNoted new from) e (other.noted (one.linked was))
  ];
  stays = λ was any place noted. other.stays (one.linked was) any place (one.stays was any place noted);
}

-- a Jump names one
pub noted_jump : (command : Command) (to : Pos) (from : ℕ) (old new : Entrants) → command ≡ Jump to → Noted from to.0 old new → AreNoted command from old new
noted_jump command to from old new is one = record {
  len = one.len;
  linked = one.linked;
  noted = λ was place goes. subst (IsNoted new from) (subst (λ c. GoesTo c place) is goes) (one.noted was);
  stays = one.stays;
}

-- another command names none
pub noted_none : (command : Command) (from : ℕ) (old new : Entrants) → new ≡ old → ((to : ℕ) → GoesTo command to → ⊥) → AreNoted command from old new
noted_none command from old new same none = subst (AreNoted command from old) (sym same) (record {
  len = refl;
  linked = λ was. was;
  noted = λ was to goes. absurd (none to goes);
  stays = λ was other place noted. noted;
})

-- ---- command by command

-- the first commands are noted
pub record AreNotedBelow (commands : List Command) (count : ℕ) (entrants : Entrants) : Type 0 where
  pub len : length entrants.heads.items ≡ length commands
  pub linked : AreLinked entrants
  pub noted : (from to : ℕ) (command : Command) → from < count → slice_get commands from ≡ Some command → GoesTo command to → IsNoted entrants from to

pub none_noted : (commands : List Command) (entrants : Entrants) → entrants.heads.items ≡ replicate (length commands) 0 → entrants.links.items ≡ [] → AreNotedBelow commands 0 entrants
none_noted commands entrants heads links = record {
  len = ap (length {A = ℕ}) heads ∙ length-replicate (length commands) 0;
  linked = record {
    heads = λ to number e. let zero_is = in_replicate (length commands) to 0 number (subst (λ (l : List ℕ). slice_get l to ≡ Some number) heads e) in omega arith;
    fall = λ place link e. absurd (nothing_in place entrants.links.items link links e);
  };
  noted = λ from to command lt. absurd (omega arith);
}

pub noted_more : (commands : List Command) (i : ℕ) (command : Command) (old new : Entrants) → slice_get commands i ≡ Some command → AreNoted command i old new → AreNotedBelow commands i old → AreNotedBelow commands (i + 1) new
noted_more commands i command old new stands noted below = record {
  len = noted.len ∙ below.len;
  linked = noted.linked below.linked;
  noted = λ from to other lt at goes. elim (cases_lt from i) as (λ _. IsNoted new from to) [
    | inl less ↦ noted.stays below.linked from to (below.noted from to other less at goes)
    | inr more ↦
        let same : from ≡ i = omega arith in
        let is : other ≡ command = same_Some other command (sym at ∙ ap (slice_get commands) same ∙ stands) in
        subst (λ (k : ℕ). IsNoted new k to) (sym same) (noted.noted below.linked to (subst (λ c. GoesTo c to) is goes))
  ];
}

pub noted_all : (commands : List Command) (i : ℕ) (entrants : Entrants) → length commands ≤ i → AreNotedBelow commands i entrants → AreEntrants commands entrants
noted_all commands i entrants all below = record {
  len = below.len;
  linked = below.linked;
  noted = λ from to command at goes. below.noted from to command (let within = slice_get_within commands from command at in omega arith) at goes;
}
