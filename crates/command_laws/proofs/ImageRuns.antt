-- The laid naming fits the rewritten lines, and the given ones too if it gives their code points different words.
use Rattle.thumb_model.specs.Listing.{code_of}
use Rattle.thumb_model.specs.Naming.{Fits, laid}
use Rattle.rule_model.proofs.Given.{left_namings_fit}
use Rattle.listing_laws.proofs.Assembled.{assembled_listings_fit}
use Rattle.window_rewrite.specs.TableRewriting.{setting}
use Rattle.command_laws.specs.Images.{KeptImagesFollow}

pub kept_images_follow : KeptImagesFollow
kept_images_follow to t given o h bytes assembled set outside =
    let runs = h.runs bytes assembled in
    let fits : Fits (laid to.base set h.lines) (code_of h.lines) = assembled_listings_fit to.base set h.lines bytes assembled outside in (
      runs.as_left set outside.set_by fits,
      λ apart. runs.as_given set outside.set_by fits (left_namings_fit (setting to.base t) given h.replacements h.lines h.sound.sound h.rewritten (laid to.base set h.lines) fits apart),
    )
