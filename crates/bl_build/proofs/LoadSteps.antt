-- One module more is decoded, or passes a stage.
use Rattle.std.proofs.Common.{◌≡◌, ℕ, ◌+◌, ◌<◌, ◌≤◌, List, [], ◌∷◌, ◌++◌, length, get_or, drop, map, Bor, refl, ap, sym, ◌∙◌, subst, add-one, drop-cons}
use Rattle.std.specs.Prelude.{Result, Ok, Err}
use Rattle.std.specs.List.{All}
use Rattle.std.proofs.lemmas.List.{drop_all, map-append}
use Rattle.std.proofs.lemmas.List.Elements.{All-cons, All-head, All-nil, All-tail}
use Rattle.bl_labels.specs.Faults.{IsConsistent}
use Rattle.bl_build.specs.LoadStages.{Decodes, LabelledModule, Named, Part, decoding, parts_of}
use Rattle.bl_text.specs.Names.{module_name}
use Rattle.bl_job.specs.Stages.{Stage, at_first, at_second, chain, each}
use Rattle.bl_job.specs.WorkAnswers.{IsStaged, content_in, contents_in, refusal_in}
use Rattle.bl_build.specs.StageAnswers.{ready_in, spelled_in}
use Rattle.bl_build.specs.declared.loading.Ready.{Ready}
use Rattle.bl_build.specs.declared.loading.Spelled.{Spelled}
use Rattle.bl_job.specs.declared.content.Content.{Content}
use Rattle.bl_job.specs.declared.refusal.WorkError.{WorkError}
use Rattle.bl_job.specs.declared.refusal.WorkError.TheVariants as error
use Rattle.bl_job.proofs.StageLemmas.{Goes, goes_on, goes_refused}

-- the words
abbrev pub words_in : List (Bor (List ℕ)) → List (List ℕ)
words_in words = map (λ (word : Bor (List ℕ)). word.now) words

-- ---- one stage, and then another one

module _ {A B C Y : Type 0} (first : Stage A B) (second : Stage B C) (given : Y → C) (a : A) where
  pub first_refuses : {X : Type 0} (value : X → B) (e : WorkError) → IsStaged first value a (Err e) → IsStaged (chain first second) given a (Err e)
  first_refuses value (error.Refused refusal) h = at_first h
  first_refuses value error.Memory h = tt

  pub then_staged : (b : B) (r : Result Y WorkError) → first.Passes a b → IsStaged second given b r → IsStaged (chain first second) given a r
  then_staged b (Ok y) p h = (b, p, h)
  then_staged b (Err (error.Refused refusal)) p h = at_second b p h
  then_staged b (Err error.Memory) p h = tt

-- ---- decoding

-- the next word, and those behind it
pub next_word : (words : List (Bor (List ℕ))) (i : ℕ) (d : Bor (List ℕ)) → i < length words → drop i words ≡ get_or words i d ∷ drop (i + 1) words
next_word words i d within = drop-cons words i d within ∙ ap (λ n. get_or words i d ∷ drop n words) (sym (add-one i))

-- where no content is left, no part is
none_left : (words : List (Bor (List ℕ))) (contents : List Content) → contents ≡ [] → parts_of (words_in words) (contents_in contents) ≡ []
none_left [] contents none = refl
none_left (word ∷ words) [] none = refl
none_left (word ∷ words) (content ∷ contents) none = absurd cc

pub none_decoded : (whole : List Part) (done : List Named) (words left : List (Bor (List ℕ))) (contents after : List Content) → contents ≡ [] → after ≡ []
    → Goes decoding whole done (parts_of (words_in words) (contents_in contents)) → Goes decoding whole done (parts_of (words_in left) (contents_in after))
none_decoded whole done words left contents after none nothing goes =
    subst (Goes decoding whole done) (none_left words contents none ∙ sym (none_left left after nothing)) goes

-- where no word is left, no part is
pub all_decoded : (words : List (Bor (List ℕ))) (i : ℕ) (contents : List Content) → length words ≤ i → parts_of (words_in (drop i words)) (contents_in contents) ≡ []
all_decoded words i contents past = ap (λ (left : List (Bor (List ℕ))). parts_of (words_in left) (contents_in contents)) (drop_all i words past)

module _ (whole : List Part) (words left : List (Bor (List ℕ))) (contents after : List Content) (done : List Spelled) (word : Bor (List ℕ)) (content : Content)
    (first : words ≡ word ∷ left) (second : contents ≡ content ∷ after) (goes : Goes decoding whole (map spelled_in done) (parts_of (words_in words) (contents_in contents))) where
  abbrev part : Part
  part = record { name = module_name word.now; bytes = content_in content }

  abbrev rest : List Part
  rest = parts_of (words_in left) (contents_in after)

  -- what is to come
  ahead : Goes decoding whole (map spelled_in done) (part ∷ rest)
  ahead =
      subst (λ (cs : List Content). Goes decoding whole (map spelled_in done) (parts_of (words_in (word ∷ left)) (contents_in cs))) second
      (subst (λ (ws : List (Bor (List ℕ))). Goes decoding whole (map spelled_in done) (parts_of (words_in ws) (contents_in contents))) first goes)

  pub next_decoded : (one : Spelled) (next : List Spelled) → next ≡ done ++ one ∷ [] → Decodes part (spelled_in one) → Goes decoding whole (map spelled_in next) rest
  next_decoded one next e passed =
      subst (λ (all : List Named). Goes decoding whole all rest) (sym (ap (map spelled_in) e ∙ map-append spelled_in done (one ∷ [])))
      (goes_on decoding whole rest (map spelled_in done) part (spelled_in one) ahead passed)

  pub not_decoded : {X : Type 0} (value : X → List Named) (e : WorkError) → IsStaged decoding spelled_in part (Err e) → IsStaged (each decoding) value whole (Err e)
  not_decoded value (error.Refused refusal) refused = goes_refused decoding whole rest (map spelled_in done) part (refusal_in refusal) ahead refused
  not_decoded value error.Memory refused = tt

-- ---- a stage on modules that the code keeps, one after another

module _ {A B X Y : Type 0} (stage : Stage A B) (given : X → A) (made : Y → B) (whole : List A) (rest left : List X) (done : List Y) (one : X) (first : rest ≡ one ∷ left)
    (goes : Goes stage whole (map made done) (map given rest)) where
  ahead_one : Goes stage whole (map made done) (given one ∷ map given left)
  ahead_one = subst (λ (r : List X). Goes stage whole (map made done) (map given r)) first goes

  pub next_passed : (y : Y) (next : List Y) → next ≡ done ++ y ∷ [] → stage.Passes (given one) (made y) → Goes stage whole (map made next) (map given left)
  next_passed y next e passed =
      subst (λ (all : List B). Goes stage whole all (map given left)) (sym (ap (map made) e ∙ map-append made done (y ∷ [])))
      (goes_on stage whole (map given left) (map made done) (given one) (made y) ahead_one passed)

  pub next_refused : {Z : Type 0} (value : Y → B) (values : Z → List B) (e : WorkError) → IsStaged stage value (given one) (Err e) → IsStaged (each stage) values whole (Err e)
  next_refused value values (error.Refused refusal) refused = goes_refused stage whole (map given left) (map made done) (given one) (refusal_in refusal) ahead_one refused
  next_refused value values error.Memory refused = tt

-- labels that don't contradict themselves
pub are_sane : (ready : List Ready) → All (λ (one : Ready). IsConsistent one.labels) ready → All (λ (one : LabelledModule). IsConsistent one.labels) (map ready_in ready)
are_sane [] sane = All-nil (λ (one : LabelledModule). IsConsistent one.labels)
are_sane (one ∷ ready) sane =
    All-cons (λ (one : LabelledModule). IsConsistent one.labels) (ready_in one) (map ready_in ready) (All-head (λ (one : Ready). IsConsistent one.labels) one ready sane)
    (are_sane ready (All-tail (λ (one : Ready). IsConsistent one.labels) one ready sane))
