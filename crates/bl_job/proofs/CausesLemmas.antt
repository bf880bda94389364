-- Why each status comes.
use Rattle.std.proofs.Common.{◌≡◌, ℕ, List, Option, Some, None, refl, ap, ◌∙◌, subst, inl, inr, ◌⊎◌}
use Rattle.bl_outside.specs.Shelf.{Files}
use Rattle.bl_job.specs.Causes.{Causes, IsDone, NoFault, NoneRose, UnlessFault}
use Rattle.bl_job.specs.Ends.{Ends}
use Rattle.bl_job.specs.Jobs.{AreRead, FirstRefusal, IsLawful, Job, Plan}
use Rattle.bl_job.specs.Refusals.{Refusal}
use Rattle.bl_job.specs.Status.{kind_of, of_deed, of_read_fault, of_refusal, of_usage, of_write_fault, status_of}
use Rattle.bl_job.specs.Worlds.{World}
use Rattle.bl_job.specs.declared.status.Status.{Status}
use Rattle.bl_job.specs.declared.status.Status.TheVariants.{Memory, ReadFault, Usage, WriteFault}
use Rattle.bl_job.proofs.JobLemmas.{done_not_refused, one_done, one_first}
use Rattle.bl_job.proofs.EndKinds.{Way, faulty, full, is_done, is_refused, no_request, of_read, of_write, said_by, unless, way}

-- the words ask for one request
one_request : {Request : Type 0} {asked : Option Request} (r s : Request) → asked ≡ Some r → asked ≡ Some s → r ≡ s
one_request r s e f = cc

module _ {Request : Type 0} (job_of : Request → Job) (laws : (request : Request) → IsLawful (job_of request)) (asked : Option Request) (old new : World) (status : Status) where
  abbrev W : Type 0
  W = Way job_of laws asked old new status

  unasked : W → asked ≡ None → UnlessFault Usage status
  unasked (no_request none e quiet) is = inl e
  unasked (is_refused r quiet) is = let other = r.is_request in absurd cc
  unasked (is_done d quiet) is = let other = d.is_request in absurd cc
  unasked (faulty f) is = unless job_of laws asked old new status Usage f

  quiet : W → (status ≡ ReadFault → ⊥) → (status ≡ WriteFault → ⊥) → (status ≡ Memory → ⊥) → NoFault old new
  quiet (no_request none e q) read write memory = q
  quiet (is_refused r q) read write memory = q
  quiet (is_done d q) read write memory = q
  quiet (faulty (of_read f e)) read write memory = absurd (read e)
  quiet (faulty (of_write f e)) read write memory = absurd (write e)
  quiet (faulty (full e)) read write memory = absurd (memory e)

  -- where nothing is refused and no count rises the job is done
  complete : W → (request : Request) → asked ≡ Some request → ((refusal : Refusal) → FirstRefusal (job_of request) old.files refusal → ⊥) → NoneRose old new
      → IsDone job_of asked old new status ⊎ (status ≡ Memory)
  complete (no_request none e q) request is not none_rose = absurd cc
  complete (is_refused r q) request is not none_rose =
      absurd (not r.refusal (subst (λ s. FirstRefusal (job_of s) old.files r.refusal) (one_request r.request request r.is_request is) r.first))
  complete (is_done d q) request is not none_rose = inl d
  complete (faulty (of_read f e)) request is not none_rose = absurd (none_rose.reads f.fails.rose)
  complete (faulty (of_write (inl rose) e)) request is not none_rose = absurd (none_rose.sink rose)
  complete (faulty (of_write (inr f) e)) request is not none_rose = absurd (none_rose.writes f.fails.rose)
  complete (faulty (full e)) request is not none_rose = inr e

  module _ (files : Files) (request : Request) (exposed : old.files ≡ Some files) (is : asked ≡ Some request) where
    -- what is said of the request that is asked for, of files that are exposed
    here : (P : Request → Option Files → Type 0) (other : Request) → asked ≡ Some other → P other old.files → P request (Some files)
    here P other these p = subst (λ f. P request f) exposed (subst (λ s. P s old.files) (one_request other request these is) p)

    refused : W → (refusal : Refusal) → FirstRefusal (job_of request) (Some files) refusal → UnlessFault (status_of refusal) status
    refused (no_request none e q) refusal first = absurd cc
    refused (is_refused r q) refusal first =
        inl (r.meant ∙ ap status_of (one_first files (job_of request) (laws request) r.refusal refusal (here (λ s f. FirstRefusal (job_of s) f r.refusal) r.request r.is_request r.first) first))
    refused (is_done d q) refusal first =
        absurd (done_not_refused files (job_of request) (laws request) refusal d.contents d.plan
        (here (λ s f. AreRead f (job_of s).reads d.contents) d.request d.is_request d.read)
        (here (λ s f. (job_of s).Does d.contents d.plan) d.request d.is_request d.does) first)
    refused (faulty f) refusal first = unless job_of laws asked old new status (status_of refusal) f

    done : W → (contents : List (List ℕ)) (plan : Plan) → AreRead (Some files) (job_of request).reads contents → (job_of request).Does contents plan → UnlessFault plan.status status
    done (no_request none e q) contents plan read does = absurd cc
    done (is_refused r q) contents plan read does =
        absurd (done_not_refused files (job_of request) (laws request) r.refusal contents plan read does (here (λ s f. FirstRefusal (job_of s) f r.refusal) r.request r.is_request r.first))
    done (is_done d q) contents plan read does =
        inl (d.meant ∙ one_done files (job_of request) (laws request) d.contents contents d.plan plan
        (here (λ s f. AreRead f (job_of s).reads d.contents) d.request d.is_request d.read) read
        (here (λ s f. (job_of s).Does d.contents d.plan) d.request d.is_request d.does) does)
    done (faulty f) contents plan read does = unless job_of laws asked old new status plan.status f

  -- what each status says, and when it comes
  pub causes : Ends job_of asked old new status → Causes job_of asked old new status
  causes ends =
      let w = way job_of laws asked old new status ends in
      let says = said_by job_of laws asked old new status w in
      record {
        usage_only = λ e. says of_usage (ap kind_of e);
        usage = unasked w;
        refused_only = says of_refusal;
        refused = λ files request refusal exposed is first. refused files request exposed is w refusal (subst (λ f. FirstRefusal (job_of request) f refusal) exposed first);
        done_only = says of_deed;
        done = λ files request contents plan exposed is read does. done files request exposed is w contents plan (subst (λ f. AreRead f (job_of request).reads contents) exposed read) does;
        read_fault = λ e. says of_read_fault (ap kind_of e);
        write_fault = λ e. says of_write_fault (ap kind_of e);
        quiet = quiet w;
        complete = λ files request exposed. complete w request;
      }

  -- what was done where the status says so
  pub was_done : Ends job_of asked old new status → kind_of status ≡ of_deed → IsDone job_of asked old new status
  was_done ends e = said_by job_of laws asked old new status (way job_of laws asked old new status ends) of_deed e

-- ---- words that are no request

module _ {Request : Type 0} (job_of : Request → Job) (old new : World) (s : Status) (c : Causes job_of None old new s) where
  not_asked : {request : Request} → None ≡ Some request → ⊥
  not_asked e = cc

  -- where no count rises, the status is usage, or memory ran out
  pub without_request : NoneRose old new → (s ≡ Usage) ⊎ (s ≡ Memory)
  without_request none_rose = of_status (c.usage refl)
    where
      of_status : UnlessFault Usage s → (s ≡ Usage) ⊎ (s ≡ Memory)
      of_status (inl is) = inl is
      of_status (inr (inl is)) = absurd (not_asked (c.read_fault is).is_request)
      of_status (inr (inr (inl is))) = elim (c.write_fault is) [ inl rose ↦ absurd (none_rose.sink rose) | inr fault ↦ absurd (not_asked fault.is_request) ]
      of_status (inr (inr (inr is))) = inr is
