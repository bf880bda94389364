use Rattle.std.proofs.Common.{◌∙◌, map, string_bytes, sym}
use Rattle.bl_words.specs.Requests.{harden, request_of}
use Rattle.bl_app.specs.Commands.{job_of}
use Rattle.bl_job.proofs.CausesLemmas.{causes, was_done}
use Rattle.bl_app.proofs.CommandLemmas.{done_by_zero, laws_of, said_of}
use Rattle.bl_app.proofs.HardenLemmas.{hardens}
use Rattle.bl_app.proofs.HardenEffectLemmas.{harden_leaves}
use Rattle.bl_job.proofs.CallEffectLemmas.{leaves}
use Rattle.bl_app.proofs.top.blade.Goals as goal

pub returns : goal.returns
returns g c =
    let words = map string_bytes c.args.words.now in
    let asked = request_of words in
    let status = c.run.result in
    let left = leaves job_of asked _ _ status c.run.ensures in record {
      ends = record { status = status; is_code = c.code.ensures; holds = c.run.ensures };
      causes = record { status = status; is_code = c.code.ensures; holds = causes job_of laws_of _ _ _ _ c.run.ensures };
      leaves = left;
      harden_leaves = λ request asks. harden_leaves request _ _ _ asks left;
      hardens = λ request asks zero.
          hardens words request _ _ status asks
          (said_of asked (harden request) _ _ status asks (was_done job_of laws_of _ _ _ _ c.run.ensures (done_by_zero status (sym c.code.ensures ∙ zero))));
      says = λ request asks. record {
        status = status;
        is_code = c.code.ensures;
        holds = λ deed. said_of asked request _ _ status asks (was_done job_of laws_of _ _ _ _ c.run.ensures deed);
      };
    }
