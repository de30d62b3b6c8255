-- How a page looks.
use Rattle.std.specs.Prelude.{ℕ, List, codes}

-- the style of a page: light and dark, on a screen, a narrow one too, and on paper
unfoldable pub style_text : List ℕ
style_text = codes ":root{color-scheme:light dark;--ink:#1b1f24;--ground:#fff;--soft:#57606a;--rule:#d0d7de;--card:#f6f8fa;--done:#a6d8ad;--error:#f4a9a2;--run:#a3cdf5;--ready:#f1da98;--wait:#e2e6ea}\n@media(prefers-color-scheme:dark){:root{--ink:#e6e8eb;--ground:#14171c;--soft:#9aa4b0;--rule:#3a424d;--card:#1d2229;--done:#2f6b3a;--error:#8f352e;--run:#275f95;--ready:#75601c;--wait:#3a414a}}\n*{box-sizing:border-box}\nbody{margin:0 auto;padding:1rem;max-width:84rem;font:15px/1.45 system-ui,sans-serif;color:var(--ink);background:var(--ground)}\nh1{font-size:1.4rem;margin:0 0 .6rem;overflow-wrap:anywhere}\nh2{font-size:1.1rem;margin:1.6rem 0 .5rem}\np{margin:.3rem 0}\ncode,pre{font-family:ui-monospace,monospace;font-size:.85rem}\npre{padding:.7rem;background:var(--card);border:1px solid var(--rule);border-radius:6px;white-space:pre-wrap;overflow-wrap:anywhere}\nul{display:flex;flex-wrap:wrap;gap:.4rem;margin:.6rem 0;padding:0;list-style:none}\nli,#round{padding:.15rem .6rem;border-radius:6px;background:var(--look)}\n.done{--look:var(--done)}.error{--look:var(--error)}.run{--look:var(--run)}.ready{--look:var(--ready)}.wait{--look:var(--wait)}.plain{--look:var(--card)}\n.wide{overflow:auto;max-height:85vh;border:1px solid var(--rule);border-radius:6px}\nsvg{display:block}\nsvg path{fill:none;stroke:var(--soft);stroke-opacity:.5}\nsvg rect{fill:var(--look);stroke:var(--rule)}\nsvg text{fill:var(--ink);font:12px ui-monospace,monospace}\n.middle{text-anchor:middle}.end{text-anchor:end}\n#find{display:flex;flex-wrap:wrap;gap:.5rem;align-items:center;margin:.5rem 0}\n#find[hidden],tr[hidden]{display:none}\ninput,select{font:inherit;padding:.2rem .4rem;max-width:100%}\ntable{border-collapse:collapse;width:100%}\nth,td{padding:.25rem .6rem;border-bottom:1px solid var(--rule);text-align:left;vertical-align:top;overflow-wrap:anywhere}\nth{position:sticky;top:0;background:var(--ground);white-space:nowrap}\nth[tabindex]{cursor:pointer;text-decoration:underline dotted}\ntd:nth-child(2){background:var(--look);white-space:nowrap}\ntd:nth-child(n+3):nth-child(-n+6){text-align:right;white-space:nowrap;font-variant-numeric:tabular-nums}\ntd p{display:inline;margin:0 .7rem 0 0;font-size:.85rem;color:var(--soft)}\ntd p:first-child{display:block}\ntd code{color:var(--ink)}\ntd a{color:inherit}\n@media(max-width:48rem){body{padding:.6rem}thead tr{display:flex;flex-wrap:wrap}th{position:static;border:0;padding:.2rem .4rem}tbody tr{display:block;padding:.4rem 0;border-bottom:1px solid var(--rule)}td{display:inline-block;border:0;padding:.1rem .4rem}td:first-child,td:last-child{display:block}td:first-child{font-weight:600}td:nth-child(3)::before{content:'attempts '}td:nth-child(4)::before{content:'value '}td:nth-child(5):not(:empty)::before{content:'at '}td:nth-child(6):not(:empty)::before{content:'for '}td:nth-child(5):not(:empty)::after,td:nth-child(6):not(:empty)::after{content:' s'}td:empty{display:none}}\n@media print{body{max-width:none;padding:0;font-size:11px}.wide{overflow:visible;max-height:none;border:0}svg{max-width:100%;height:auto}#find{display:none}th{position:static}tr,li{break-inside:avoid}h2{break-after:avoid}*{print-color-adjust:exact;-webkit-print-color-adjust:exact}}\n"
