-- The files of a job: what is read in order, and that at most one error is the first.
use Rattle.std.proofs.Common.{◌≡◌, ℕ, List, [], ◌∷◌, ◌++◌, length, Option, Some, None, refl, inl, inr, ap, sym, ◌∙◌, subst, arith}
use Rattle.std.specs.FinMap as fin
use Rattle.bl_outside.specs.Shelf.{Files}
use Rattle.bl_job.specs.Jobs.{AreRead, At, FirstRefusal, IsLawful, IsRead, IsTooLong, Job, Plan, Read, RefusesLength, against, too_long}
use Rattle.bl_job.specs.Refusals.{Refusal}

module _ (files : Option Files) where
  -- of what was read the lengths fit
  pub lengths_fit : (reads : List Read) (contents : List (List ℕ)) → AreRead files reads contents → AreRead None reads contents
  lengths_fit [] [] r = tt
  lengths_fit [] (bytes ∷ contents) r = r
  lengths_fit (read ∷ reads) [] r = r
  lengths_fit (read ∷ reads) (bytes ∷ contents) r = (record { file = tt; short = r.0.short }, lengths_fit reads contents r.1)

  -- one file more is read behind others
  pub read_behind : (before : List Read) (contents : List (List ℕ)) (read : Read) (bytes : List ℕ) → AreRead files before contents → AreRead files (read ∷ []) (bytes ∷ [])
      → AreRead files (before ++ read ∷ []) (contents ++ bytes ∷ [])
  read_behind [] [] read bytes r s = s
  read_behind [] (x ∷ contents) read bytes r s = absurd r
  read_behind (x ∷ before) [] read bytes r s = absurd r
  read_behind (x ∷ before) (y ∷ contents) read bytes r s = (r.0, read_behind before contents read bytes r.1 s)

  -- what holds of a read holds of it behind others that are read
  pub at_behind : (P : Read → Type 0) (before : List Read) (contents : List (List ℕ)) (read : Read) (after : List Read) → AreRead files before contents → At files P (read ∷ [])
      → At files P (before ++ read ∷ after)
  at_behind P [] [] read after r (inl p) = inl p
  at_behind P [] [] read after r (inr q) = absurd q.2
  at_behind P [] (x ∷ contents) read after r p = absurd r
  at_behind P (x ∷ before) [] read after r p = absurd r
  at_behind P (x ∷ before) (y ∷ contents) read after r p = inr (y, r.0, at_behind P before contents read after r.1 p)

-- ---- files that are exposed

module _ (files : Files) where
  one_file : (name a b : List ℕ) → fin.get files name ≡ Some a → fin.get files name ≡ Some b → a ≡ b
  one_file name a b e f = cc

  long_not_read : (read : Read) (bytes : List ℕ) → IsTooLong (Some files) read → IsRead (Some files) read bytes → ⊥
  long_not_read read bytes l r =
      let same = ap length (one_file read.name l.bytes bytes l.file r.file) in
      omega (arith, same, l.long, r.short)

  one_contents : (reads : List Read) (a b : List (List ℕ)) → AreRead (Some files) reads a → AreRead (Some files) reads b → a ≡ b
  one_contents [] [] [] r s = refl
  one_contents [] [] (y ∷ b) r s = absurd s
  one_contents [] (x ∷ a) b r s = absurd r
  one_contents (read ∷ reads) [] b r s = absurd r
  one_contents (read ∷ reads) (x ∷ a) [] r s = absurd s
  one_contents (read ∷ reads) (x ∷ a) (y ∷ b) r s =
      let first = one_file read.name x y r.0.file s.0.file in
      let rest = one_contents reads a b r.1 s.1 in
      λ i. first i ∷ rest i

  one_length : (reads : List Read) (a b : Refusal) → RefusesLength (Some files) reads a → RefusesLength (Some files) reads b → a ≡ b
  one_length [] a b h k = absurd h
  one_length (read ∷ reads) a b (inl p) (inl q) = p.1 ∙ sym q.1
  one_length (read ∷ reads) a b (inl p) (inr q) = absurd (long_not_read read q.0 p.0 q.1)
  one_length (read ∷ reads) a b (inr p) (inl q) = absurd (long_not_read read p.0 q.0 p.1)
  one_length (read ∷ reads) a b (inr p) (inr q) = one_length reads a b p.2 q.2

  refused_not_read : (reads : List Read) (contents : List (List ℕ)) (refusal : Refusal) → RefusesLength (Some files) reads refusal → AreRead (Some files) reads contents → ⊥
  refused_not_read [] contents refusal h r = h
  refused_not_read (read ∷ reads) [] refusal h r = r
  refused_not_read (read ∷ reads) (bytes ∷ contents) refusal (inl p) r = long_not_read read bytes p.0 r.0
  refused_not_read (read ∷ reads) (bytes ∷ contents) refusal (inr p) r = refused_not_read reads contents refusal p.2 r.1

  module _ (job : Job) (laws : IsLawful job) where
    -- at most one refusal is the first
    pub one_first : (a b : Refusal) → FirstRefusal job (Some files) a → FirstRefusal job (Some files) b → a ≡ b
    one_first a b (too_long h) (too_long k) = one_length job.reads a b h k
    one_first a b (too_long h) (against contents r is) = absurd (refused_not_read job.reads contents a h r)
    one_first a b (against contents r is) (too_long k) = absurd (refused_not_read job.reads contents b k r)
    one_first a b (against contents r is) (against others s these) =
        laws.one_refusal contents a b is (subst (λ c. job.Against c b) (one_contents job.reads others contents s r) these)

    -- nothing is refused where the job can be done
    pub done_not_refused : (refusal : Refusal) (contents : List (List ℕ)) (plan : Plan) → AreRead (Some files) job.reads contents → job.Does contents plan → FirstRefusal job (Some files) refusal → ⊥
    done_not_refused refusal contents plan r does (too_long h) = refused_not_read job.reads contents refusal h r
    done_not_refused refusal contents plan r does (against others s is) =
        laws.none_beside_a_deed contents refusal plan (subst (λ c. job.Against c refusal) (one_contents job.reads others contents s r) is) does

    -- all that may be done has one status
    pub one_done : (contents others : List (List ℕ)) (p q : Plan) → AreRead (Some files) job.reads contents → AreRead (Some files) job.reads others → job.Does contents p → job.Does others q → p.status ≡ q.status
    one_done contents others p q r s does those =
        laws.one_status contents p q does (subst (λ c. job.Does c q) (one_contents job.reads others contents s r) those)
