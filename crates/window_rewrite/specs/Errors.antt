-- A layout's error as one of rewriting.
use Rattle.label_layout.specs.declared.errors.LayoutError.{LayoutError}
use Rattle.label_layout.specs.declared.errors.LayoutError.TheVariants as layout
use Rattle.window_rewrite.specs.declared.errors.RewriteError.{RewriteError}
use Rattle.window_rewrite.specs.declared.errors.RewriteError.TheVariants as error

abbrev pub of_layout : LayoutError → RewriteError
of_layout (layout.Line number k) = error.Line number k
of_layout layout.Memory = error.Memory
