use Rattle.std.proofs.Common.{rules}
use Rattle.thumb_assembler.specs.declared.errors.ImageError.TheVariants as image
use Rattle.thumb_assembler.specs.Bytes.{IsRefusal}
use Rattle.audit_cli.proofs.StepLemmas.{is_no_address, is_inside}
use Rattle.audit_cli.proofs.steps.image_of.Goals as goal

pub returns-in-Err-NoAddress : goal.returns-in-Err-NoAddress
returns-in-Err-NoAddress c =
    let h : IsRefusal c.args.base c.args.listing.now (image.NoAddress c.from.result) = search rules in
    is_no_address c.args.base c.args.listing.now c.from.result h

pub returns-in-Err-Inside : goal.returns-in-Err-Inside
returns-in-Err-Inside c =
    let h : IsRefusal c.args.base c.args.listing.now (image.Inside c.from-in-Err-Inside.result) = search rules in
    is_inside c.args.base c.args.listing.now c.from-in-Err-Inside.result h
