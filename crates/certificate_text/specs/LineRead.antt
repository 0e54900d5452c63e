-- What the code's lines say.
use Rattle.certificate_text.specs.Line.{LineView, HeaderLine, RowLine, HoldLine, PriceLine, TotalLine, ShortLine, EndLine}
use Rattle.certificate_text.specs.declared.line.Line.{Line}
use Rattle.certificate_text.specs.declared.line.Line.TheVariants as line

-- the line without where its id lies in memory
abbrev pub line_view : Line → LineView
line_view (line.Header weights) = HeaderLine weights
line_view (line.Row row) = RowLine row
line_view (line.Hold hold) = HoldLine hold.id.now hold.cpus hold.value
line_view (line.Price price) = PriceLine price
line_view (line.Total total) = TotalLine total.weights total.total
line_view (line.Short id) = ShortLine id.now
line_view line.End = EndLine
