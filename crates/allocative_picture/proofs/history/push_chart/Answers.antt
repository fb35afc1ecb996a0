-- of push_chart: the result
use Rattle.std.proofs.Common.{map, length, codes, string_bytes}
use Rattle.allocative_picture.proofs.Joining.{appended}
use Rattle.allocative_picture.specs.History.{chart, chart_heading, greatest, line, names, path_lines, points, scale_of, totals}
use Rattle.allocative_picture.specs.Table.{weight_of}
use Rattle.allocative_picture.proofs.history.push_chart.Goals as goal

-- The parts of the chart are appended in order.
pub returns : goal.returns
unfolding chart
returns c =
    let unit = c.args.unit.now in
    let ms = c.args.moments.now in
    let s = scale_of ms in
    rw (
      c.in_ok-push_names.ensures,
      c.in_ok-push_points.ensures,
      c.in_ok-push_path_lines.ensures,
      c.in_ok-push_line.ensures,
      c.in_ok-push_chart_heading.ensures,
      c.greatest-top.ensures,
      c.as_slice.ensures.value,
      c.as_slice-2.ensures.value,
      c.in_ok-totals.ensures,
      c.saturating_sub-last.ensures,
    )
    (appended (string_bytes c.args.text.now) (chart_heading c.args.title.now unit (length ms) (greatest (totals ms)))
    (line s unit 0 (codes "all") (totals ms)) (path_lines s unit ms 1 (map weight_of c.args.changed.now))
    (points s unit 0 ms) (names ms))
