use Rattle.std.proofs.Common.{refl}
use Rattle.bl_app.proofs.KeptCounts.{protected_image}
use Rattle.bl_app.proofs.laws.kept_images_are_of_the_program.Goals as goal

pub returns-clause-lowered : goal.returns-clause-lowered
returns-clause-lowered c = λ built is. record { program = built.program; is_image = is; alike = refl }

pub returns-clause-hardened : goal.returns-clause-hardened
returns-clause-hardened c = λ built hardened is. protected_image built is.set hardened.program hardened.image is.is_program is.image

pub returns-clause-parted : goal.returns-clause-parted
returns-clause-parted c = λ request contents parted plan means. protected_image means.built means.set parted.program parted.image means.is_program means.image
